-- A setter is what its parameter and its body make of it, with what is told of a directive that comes too late.
use Rattle.std.proofs.Common.{◌≡◌, ℕ, false, List, Ok, Err, ap, ◌∙◌}
use Rattle.swc_ecma_parser_common.specs.declared.span.Span.{Span}
use Rattle.swc_ecma_parser_error.specs.Kind.{Fault}
use Rattle.swc_ecma_parser_model.specs.Tree as tree
use Rattle.swc_ecma_parser_model.specs.Tree.{Tree}
use Rattle.swc_ecma_parser_model.specs.Forms.{is_binding_name}
use Rattle.swc_ecma_parser_grammar.specs.Own.{misplaced_directive}
use Rattle.swc_ecma_parser_grammar.specs.language.Items.{nested_item}
use Rattle.swc_ecma_parser_grammar.specs.language.Contexts.{in_parameters}
use Rattle.swc_ecma_parser_reader.specs.Reader as rules
use Rattle.swc_ecma_parser_reader.specs.State.{State, Reader, and_then, ◌>>=◌, ◌>>◌, pure, since, within}
use Rattle.swc_ecma_parser_reader.specs.Reader.{told, stmt, one_parameter, function_body, setter}

module _ (n : ℕ) (start : Span) (key : Tree) (s t a u : State) (ps : List Tree) (p body : Tree)
    (params : within (λ k. in_parameters k false false) (rules.parameters n) s ≡ Ok (ps, t)) (one : one_parameter start ps t ≡ Ok (p, a))
    (rest : function_body (stmt n nested_item) (rules.parameters n) false false a ≡ Ok (body, u)) where
  abbrev pub setter_tree : Tree
  setter_tree = tree.setter_prop (record { lo = start.lo; hi = u.at.last.hi }) key p body

  abbrev pub setter_faults : List Fault
  setter_faults = misplaced_directive (is_binding_name p) body

  setter_told : setter (stmt n nested_item) (rules.parameters n) start key s ≡ and_then (told setter_faults u) (λ _. pure setter_tree)
  unfolding setter
  setter_told =
      let finish : Tree → Tree → Reader Tree = λ q b. since start >>= (λ span. told (misplaced_directive (is_binding_name q) b) >> pure (tree.setter_prop span key q b)) in
      ap (λ o. and_then o (λ qs. one_parameter start qs >>= (λ q. function_body (stmt n nested_item) (rules.parameters n) false false >>= finish q))) params
      ∙ ap (λ o. and_then o (λ q. function_body (stmt n nested_item) (rules.parameters n) false false >>= finish q)) one ∙ ap (λ o. and_then o (finish p)) rest

  pub setter_err : (e : Fault × State) → told setter_faults u ≡ Err e → setter (stmt n nested_item) (rules.parameters n) start key s ≡ Err e
  setter_err e h = setter_told ∙ ap (λ o. and_then o (λ _. pure setter_tree)) h

  pub setter_found : (v : State) → told setter_faults u ≡ Ok (tt, v) → setter (stmt n nested_item) (rules.parameters n) start key s ≡ Ok (setter_tree, v)
  setter_found v h = setter_told ∙ ap (λ o. and_then o (λ _. pure setter_tree)) h
