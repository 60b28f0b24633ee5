-- `throw`, `break`, `continue` and `return` lose nothing.
use Rattle.swc_ecma_parser_reader.proofs.KeepsParts.{after_return_keeps, target_keeps}
use Rattle.swc_ecma_parser_reader.proofs.expressions.KeepSteps.{told_keeps}
use Rattle.swc_ecma_parser_reader.specs.Reader.{target, unbroken, break_stmt, uncontinued, continue_stmt, operand, returned, return_stmt, thrown, throw, may_return}
use Rattle.swc_ecma_parser_reader.specs.State.{State, moved, coded, within, end}
use Rattle.swc_ecma_parser_grammar.specs.language.Contexts.{with_in}
use Rattle.std.proofs.Common.{◌≡◌, refl}
use Rattle.std.specs.Prelude.{◌||◌}
use Rattle.swc_ecma_parser_error.specs.Kind as faults
use Rattle.swc_ecma_parser_token.specs.declared.kind.TokenKind.TheVariants as kind
use Rattle.swc_ecma_parser_input.specs.Place.{after}
use Rattle.swc_ecma_parser_grammar.specs.Looks.{kind_at, breaks_at, sees, span_at}
use Rattle.swc_ecma_parser_grammar.specs.Ends.{ends_at}
use Rattle.swc_ecma_parser_grammar.specs.language.Goals.{expression}
use Rattle.swc_ecma_parser_reader.proofs.Meets.{Answers, answers_then, answers_if}
use Rattle.swc_ecma_parser_reader.proofs.Behind.{NothingLost, Kept, Lost, flagged_kept, behind_after, refuse_keeps, end_keeps}
use Rattle.swc_ecma_parser_reader.proofs.KeepsBelow.{KeepsBelow}

module _ (known : KeepsBelow) (b : State) (s : State) (f : NothingLost b s) where
  pub break_keeps : kind_at s.at ≡ kind.Break → Answers (Kept b) (Lost b) (break_stmt s)
  unfolding break_stmt unbroken
  break_keeps e = answers_then _ _ (target (moved s)) _ (target_keeps b (moved s) (behind_after b s e refl f)) (λ x t k.
      answers_then _ _ (end faults.Expected t) _ (end_keeps b t k faults.Expected) (λ _ u j.
      answers_then (Kept b) _ (unbroken x (record { lo = (span_at s.at).lo; hi = u.at.last.hi }) u) _ (told_keeps b _ u j) (λ _ v z. z)))

  pub continue_keeps : kind_at s.at ≡ kind.Continue → Answers (Kept b) (Lost b) (continue_stmt s)
  unfolding continue_stmt uncontinued
  continue_keeps e = answers_then _ _ (target (moved s)) _ (target_keeps b (moved s) (behind_after b s e refl f)) (λ x t k.
      answers_then _ _ (end faults.Expected t) _ (end_keeps b t k faults.Expected) (λ _ u j.
      answers_then (Kept b) _ (uncontinued x (record { lo = (span_at s.at).lo; hi = u.at.last.hi }) u) _ (told_keeps b _ u j) (λ _ v z. z)))

  pub return_keeps : kind_at s.at ≡ kind.Return → Answers (Kept b) (Lost b) (return_stmt (known.inner_expr expression) s)
  unfolding return_stmt returned operand
  return_keeps e =
      let g = behind_after b s e refl f in
      after_return_keeps b (may_return s.code) (span_at s.at) (returned (known.inner_expr expression) (span_at s.at) (moved s)) (answers_then (Kept b) _ (operand (known.inner_expr expression) (moved s)) _
      (answers_if (Kept b) _ (ends_at (after s.at)) _ _ (λ _. g)
      (λ _. answers_then (Kept b) _ (known.inner_expr expression (coded (with_in s.code) (moved s))) _ (known.below_expr expression b (coded (with_in s.code) (moved s)) g) (λ x t k. flagged_kept b (moved s) t g k))) (λ x t k.
      answers_then _ _ (end faults.Expected t) _ (end_keeps b t k faults.Expected) (λ _ u j. j)))

  pub throw_keeps : kind_at s.at ≡ kind.Throw → Answers (Kept b) (Lost b) (throw (known.inner_expr expression) s)
  unfolding throw thrown
  throw_keeps e =
      let g = behind_after b s e refl f in
      answers_if _ _ (breaks_at (after s.at) || sees kind.End (after s.at)) _ _ (λ _. refuse_keeps _ faults.LineBreakInThrow b (moved s) g) (λ _.
      answers_then _ _ (within with_in (known.inner_expr expression) (moved s)) _
      (answers_then (Kept b) _ (known.inner_expr expression (coded (with_in s.code) (moved s))) _ (known.below_expr expression b (coded (with_in s.code) (moved s)) g) (λ x t k. flagged_kept b (moved s) t g k)) (λ x t k.
      answers_then _ _ (end faults.Expected t) _ (end_keeps b t k faults.Expected) (λ _ u j. j)))
