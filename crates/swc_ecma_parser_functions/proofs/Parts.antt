-- A function is what its parameters and its body make of it, with what is told of a directive that comes too late.
use Rattle.std.proofs.Common.{◌≡◌, ℕ, Bool, true, false, List, [], Result, Ok, Err, Option, refl, sym, ap, subst, ◌∙◌}
use Rattle.std.specs.Prelude.{IfOk, IfErr}
use Rattle.swc_ecma_parser_common.specs.declared.span.Span.{Span}
use Rattle.swc_ecma_parser_error.specs.declared.error.Error.{Error}
use Rattle.swc_ecma_parser_error.specs.Kind.{Fault, IsOutOfMemory}
use Rattle.swc_ecma_parser_model.specs.Tree as tree
use Rattle.swc_ecma_parser_model.specs.Tree.{Tree, listed}
use Rattle.swc_ecma_parser_model.specs.Forms.{has_plain_params}
use Rattle.swc_ecma_parser_grammar.specs.scaffold.Decorated.{function_behind}
use Rattle.swc_ecma_parser_grammar.specs.Own.{misplaced_directive}
use Rattle.swc_ecma_parser_grammar.specs.Parameters.{parameters}
use Rattle.swc_ecma_parser_grammar.specs.language.Items.{nested_item}
use Rattle.swc_ecma_parser_grammar.specs.language.Contexts.{in_parameters}
use Rattle.swc_ecma_parser_reader.specs.Dressed.{function_parts_with}
use Rattle.swc_ecma_parser_reader.specs.Reader as rules
use Rattle.swc_ecma_parser_reader.specs.State.{State, Outcome, Reader, and_then, ◌>>=◌, ◌>>◌, pure, since, within, GivesAs}
use Rattle.swc_ecma_parser_reader.specs.Reader.{told, stmt, misdirected, function_body, function_parts}
use Rattle.swc_ecma_parser_functions.specs.Late.{late}

none_misplaced : (body : Tree) → misplaced_directive true body ≡ []
none_misplaced (tree.block s (tree.list xs)) = refl
none_misplaced _ = refl

-- what holds of what is told where the parameters are plain names and where they are not
pub told_late : (P : Outcome (Unit {0}) → Type 0) (plain : Bool) (body : Tree) (directive : Option Span) (u : State) → misplaced_directive false body ≡ late directive
    → (plain ≡ true → P (told [] u)) → (plain ≡ false → P (told (late directive) u)) → P (told (misplaced_directive plain body) u)
told_late P true body directive u h plain other = subst (λ fs. P (told fs u)) (sym (none_misplaced body)) (plain refl)
told_late P false body directive u h plain other = subst (λ fs. P (told fs u)) (sym h) (other refl)

module _ (a g : Bool) (n : ℕ) (start : Span) (s t u : State) (ps : List Tree) (body : Tree)
    (params : within (λ k. in_parameters k a g) (rules.parameters n) s ≡ Ok (ps, t)) (rest : function_body (stmt n nested_item) (rules.parameters n) a g t ≡ Ok (body, u)) where
  abbrev pub function_tree : Tree
  function_tree = tree.function (record { lo = start.lo; hi = u.at.last.hi }) (listed []) (parameters ps) body a g

  abbrev pub parts_faults : List Fault
  parts_faults = misplaced_directive (has_plain_params (parameters ps)) body

  parts_told : function_parts (stmt n nested_item) (rules.parameters n) a g start s ≡ and_then (told parts_faults u) (λ _. pure function_tree)
  unfolding function_parts misdirected
  parts_told =
      let finish : List Tree → Tree → Reader Tree = λ qs b. since start >>= (λ span. misdirected (parameters qs) b >> pure (tree.function span (listed []) (parameters qs) b a g)) in
      ap (λ o. and_then o (λ qs. function_body (stmt n nested_item) (rules.parameters n) a g >>= finish qs)) params ∙ ap (λ o. and_then o (finish ps)) rest

  pub parts_err : (e : Fault × State) → told parts_faults u ≡ Err e → function_parts (stmt n nested_item) (rules.parameters n) a g start s ≡ Err e
  parts_err e h = parts_told ∙ ap (λ o. and_then o (λ _. pure function_tree)) h

  pub parts_found : (v : State) → told parts_faults u ≡ Ok (tt, v) → function_parts (stmt n nested_item) (rules.parameters n) a g start s ≡ Ok (function_tree, v)
  parts_found v h = parts_told ∙ ap (λ o. and_then o (λ _. pure function_tree)) h

-- what is read is what is made of it, where memory is found
pub made_gives : {E X : Type 0} (view : X → Tree) (o : Outcome Tree) (z : Tree) (u v : State) (r : Result X Error) (made : Result X E) → o ≡ Ok (z, u)
    → IfOk made (λ x. view x ≡ z) → IfOk r (λ x. made ≡ Ok x) → IfOk r (λ x. v ≡ u) → IfErr r IsOutOfMemory → GivesAs view o r v
made_gives view o z u v (Ok x) made h k m n i = let e : view x ≡ z = subst (λ q. IfOk q (λ y. view y ≡ z)) m k in rw (n, e) h
made_gives view o z u v (Err x) made h k m n i = λ j. absurd (j i)

-- with the decorators that were read before it
module _ (stmt : Reader Tree) (params : Reader (List Tree)) (ds : List Tree) (a g : Bool) (start : Span) (s : State) where
  pub behind_err : (e : Fault × State) → function_parts stmt params a g start s ≡ Err e → function_parts_with stmt params ds a g start s ≡ Err e
  unfolding function_parts_with
  behind_err e h = ap (λ o. and_then o (λ x. pure (function_behind ds x))) h

  pub behind_found : (x : Tree) (v : State) → function_parts stmt params a g start s ≡ Ok (x, v) → function_parts_with stmt params ds a g start s ≡ Ok (function_behind ds x, v)
  unfolding function_parts_with
  behind_found x v h = ap (λ o. and_then o (λ y. pure (function_behind ds y))) h
