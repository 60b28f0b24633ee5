-- An arrow function is what its parameters and its body make of it, with what is told of a directive that comes too late.
use Rattle.std.proofs.Common.{◌≡◌, ℕ, Bool, false, List, Ok, Err, refl, sym, ap, ◌∙◌}
use Rattle.swc_ecma_parser_common.specs.declared.span.Span.{Span}
use Rattle.swc_ecma_parser_error.specs.Kind.{Fault}
use Rattle.swc_ecma_parser_model.specs.Tree as tree
use Rattle.swc_ecma_parser_model.specs.Tree.{Tree, listed}
use Rattle.swc_ecma_parser_model.specs.Forms.{has_plain_params}
use Rattle.swc_ecma_parser_grammar.specs.Looks.{breaks_at}
use Rattle.swc_ecma_parser_grammar.specs.Own.{misplaced_directive}
use Rattle.swc_ecma_parser_reader.specs.State.{State, Reader, and_then, ◌>>=◌, ◌>>◌, pure, moved, skip, since}
use Rattle.swc_ecma_parser_reader.specs.Arrows.{arrow_body, arrow_from}
use Rattle.swc_ecma_parser_reader.specs.Reader.{told, expr, function}
use Rattle.swc_ecma_parser_reader.proofs.Meets.{Refuses, meant}

-- a token was taken
pub was_moved : (s m : State) (x : Unit {0}) → skip s ≡ Ok (x, m) → m ≡ moved s
was_moved s m x e = meant (λ _ u. u ≡ moved s) Refuses (skip s) (Ok (x, m)) e refl

module _ (a : Bool) (n : ℕ) (start : Span) (ps : List Tree) (s m u : State) (body : Tree) (unbroken : breaks_at s.at ≡ false) (skipped : m ≡ moved s)
    (rest : arrow_body (expr n) (function n) a m ≡ Ok (body, u)) where
  abbrev pub arrow_tree : Tree
  arrow_tree = tree.arrow (record { lo = start.lo; hi = u.at.last.hi }) (listed ps) body a

  abbrev pub arrow_faults : List Fault
  arrow_faults = misplaced_directive (has_plain_params (listed ps)) body

  arrow_told : arrow_from (expr n) (function n) a start ps s ≡ and_then (told arrow_faults u) (λ _. pure arrow_tree)
  unfolding arrow_from
  arrow_told =
      let finish : Tree → Reader Tree = λ b. since start >>= (λ span. told (misplaced_directive (has_plain_params (listed ps)) b) >> pure (tree.arrow span (listed ps) b a)) in
      rw unbroken (ap (λ w. and_then (arrow_body (expr n) (function n) a w) finish) (sym skipped) ∙ ap (λ o. and_then o finish) rest)

  pub arrow_err : (e : Fault × State) → told arrow_faults u ≡ Err e → arrow_from (expr n) (function n) a start ps s ≡ Err e
  arrow_err e h = arrow_told ∙ ap (λ o. and_then o (λ _. pure arrow_tree)) h

  pub arrow_found : (v : State) → told arrow_faults u ≡ Ok (tt, v) → arrow_from (expr n) (function n) a start ps s ≡ Ok (arrow_tree, v)
  arrow_found v h = arrow_told ∙ ap (λ o. and_then o (λ _. pure arrow_tree)) h
