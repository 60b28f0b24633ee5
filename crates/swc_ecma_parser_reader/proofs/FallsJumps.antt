-- `throw`, `break`, `continue` and `return` take a token at least.
use Rattle.swc_ecma_parser_reader.specs.State.{State, Outcome, Reader, moved, within, name, end}
use Rattle.swc_ecma_parser_reader.specs.Reader.{target, unbroken, break_stmt, uncontinued, continue_stmt, may_return, misplaced, after_return, operand, returned, return_stmt, thrown, throw}
use Rattle.swc_ecma_parser_grammar.specs.language.Contexts.{with_in}
use Rattle.std.proofs.Common.{◌≢◌, ℕ, Bool, length, Ok, Err, arith}
use Rattle.std.specs.Prelude.{◌||◌, is_some}
use Rattle.swc_ecma_parser_common.specs.declared.span.Span.{Span}
use Rattle.swc_ecma_parser_error.specs.Kind as faults
use Rattle.swc_ecma_parser_token.specs.declared.kind.TokenKind.TheVariants as kind
use Rattle.swc_ecma_parser_input.specs.Place.{Place, after}
use Rattle.swc_ecma_parser_model.specs.Tree.{Tree}
use Rattle.swc_ecma_parser_grammar.specs.Looks.{kind_at, breaks_at, sees, span_at}
use Rattle.swc_ecma_parser_grammar.specs.Ends.{ends_at}
use Rattle.swc_ecma_parser_reader.proofs.Takes.{Falls, falls_then, falls_last, falls_if, less, falls_past, refuse_falls, refused_falls, fewer, name_falls, end_falls}
use Rattle.swc_ecma_parser_reader.proofs.expressions.Falls.{told_falls}
use Rattle.swc_ecma_parser_reader.proofs.FallsHeads.{whole_falls}

module _ (inner : Reader Tree) (h : (s : State) → Falls 1 (length s.at.left) (inner s)) where
  thrown_falls : (start : Place) (s : State) → Falls 0 (length s.at.left) (thrown inner start s)
  unfolding thrown
  thrown_falls start s = falls_then 0 0 (length s.at.left) (within with_in inner s) _ (less (length s.at.left) (within with_in inner s) (whole_falls inner h s)) (λ x t.
      falls_last 0 (length t.at.left) (end faults.Expected t) _ (end_falls faults.Expected t))

  pub throw_falls : (s : State) → kind_at s.at ≢ kind.End → Falls 1 (length s.at.left) (throw inner s)
  unfolding throw
  throw_falls s e = falls_past s _ e (falls_if 0 (length (after s.at).left) (breaks_at (after s.at) || sees kind.End (after s.at)) _ _
      (refuse_falls Tree 0 (length (after s.at).left) faults.LineBreakInThrow (moved s)) (thrown_falls s.at (moved s)))

target_falls : (s : State) → Falls 0 (length s.at.left) (target s)
unfolding target
target_falls s = falls_if 0 (length s.at.left) (ends_at s.at) _ _ (omega arith)
    (falls_last 0 (length s.at.left) (name faults.ExpectedIdent s) _ (less (length s.at.left) (name faults.ExpectedIdent s) (name_falls faults.ExpectedIdent s)))

pub break_falls : (s : State) → kind_at s.at ≢ kind.End → Falls 1 (length s.at.left) (break_stmt s)
unfolding break_stmt unbroken
break_falls s e = falls_past s _ e (falls_then 0 0 (length (after s.at).left) (target (moved s)) _ (target_falls (moved s)) (λ x t.
    falls_then 0 0 (length t.at.left) (end faults.Expected t) _ (end_falls faults.Expected t) (λ _ u.
    falls_last 0 (length u.at.left) (unbroken x (record { lo = (span_at s.at).lo; hi = u.at.last.hi }) u) _ (told_falls _ u))))

pub continue_falls : (s : State) → kind_at s.at ≢ kind.End → Falls 1 (length s.at.left) (continue_stmt s)
unfolding continue_stmt uncontinued
continue_falls s e = falls_past s _ e (falls_then 0 0 (length (after s.at).left) (target (moved s)) _ (target_falls (moved s)) (λ x t.
    falls_then 0 0 (length t.at.left) (end faults.Expected t) _ (end_falls faults.Expected t) (λ _ u.
    falls_last 0 (length u.at.left) (uncontinued x (record { lo = (span_at s.at).lo; hi = u.at.last.hi }) u) _ (told_falls _ u))))

after_return_falls : (n : ℕ) (may : Bool) (start : Span) (o : Outcome Tree) → Falls 0 n o → Falls 0 n (after_return may start o)
unfolding misplaced
after_return_falls n may start (Ok p) h = fewer 0 n (length p.1.at.left) (after_return may start (Ok p)) (omega arith) (falls_last 0 (length p.1.at.left) (misplaced may start p.1) _ (told_falls _ p.1))
after_return_falls n may start (Err e) h = falls_if 0 n (is_some e.1.scope.mark) _ _ tt (refused_falls Tree 0 n e.0 (misplaced may start e.1))

module _ (inner : Reader Tree) (h : (s : State) → Falls 1 (length s.at.left) (inner s)) where
  operand_falls : (s : State) → Falls 0 (length s.at.left) (operand inner s)
  unfolding operand
  operand_falls s = falls_if 0 (length s.at.left) (ends_at s.at) _ _ (omega arith) (less (length s.at.left) (within with_in inner s) (whole_falls inner h s))

  returned_falls : (start : Span) (s : State) → Falls 0 (length s.at.left) (returned inner start s)
  unfolding returned
  returned_falls start s = falls_then 0 0 (length s.at.left) (operand inner s) _ (operand_falls s) (λ x t.
      falls_last 0 (length t.at.left) (end faults.Expected t) _ (end_falls faults.Expected t))

  pub return_falls : (s : State) → kind_at s.at ≢ kind.End → Falls 1 (length s.at.left) (return_stmt inner s)
  unfolding return_stmt
  return_falls s e = falls_past s _ e (after_return_falls (length (after s.at).left) (may_return s.code) (span_at s.at) (returned inner (span_at s.at) (moved s)) (returned_falls (span_at s.at) (moved s)))
