-- `await` as an operator: where it stands, no error token does, so its fault is recorded before it is read.
use Rattle.std.proofs.Common.{◌≡◌, Bool, true, false, cond, Some, Ok, refl, ◌∙◌, ap}
use Rattle.swc_ecma_parser_error.specs.Kind as faults
use Rattle.swc_ecma_parser_error.specs.Kind.{Fault}
use Rattle.swc_ecma_parser_token.specs.declared.kind.TokenKind.{TokenKind}
use Rattle.swc_ecma_parser_token.specs.declared.kind.TokenKind.TheVariants as kind
use Rattle.swc_ecma_parser_input.specs.declared.context.Context.{Context}
use Rattle.swc_ecma_parser_input.specs.Place.{Place}
use Rattle.swc_ecma_parser_model.specs.declared.operators.UpdateOp.{UpdateOp}
use Rattle.swc_ecma_parser_grammar.specs.Looks.{kind_at, span_at, same_kind}
use Rattle.swc_ecma_parser_grammar.specs.Walk.{is_tabled}
use Rattle.swc_ecma_parser_grammar.specs.language.Begins.{awaits}
use Rattle.swc_ecma_parser_grammar.specs.language.Operators.{update_operator}
use Rattle.swc_ecma_parser_grammar.specs.language.Contexts.{may_await}
use Rattle.swc_ecma_parser_grammar.proofs.ExpressionBegins.{await_stands}
use Rattle.swc_ecma_parser_grammar.proofs.Marks.{awaits_apart}
use Rattle.swc_ecma_parser_reader.specs.State.{State, Outcome, Reader, and_then, noted, fault, fault_at}
use Rattle.swc_ecma_parser_reader.specs.Expressions.{misplaced_await, await_allowed}
use Rattle.swc_ecma_parser_reader.proofs.Errors.{is_error, fault_here}

-- where another token stands it is none
pub other_awaits : {j : TokenKind} (f : Context) (c : Place) → kind_at c ≡ j → same_kind j kind.Await ≡ false → awaits f c ≡ false
other_awaits f c e h = awaits_apart f c (ap (λ z. same_kind z kind.Await) e ∙ h)

-- `++` and `--` are others
pub update_no_await : (k : TokenKind) (op : UpdateOp) → update_operator k ≡ Some op → same_kind k kind.Await ≡ false
unfolding same_kind
update_no_await kind.Await op e = cc
update_no_await _ op e = refl

-- the fault of one that is misplaced
abbrev pub await_fault : State → Fault
await_fault s = fault_at (span_at s.at) (misplaced_await s.code)

-- it is none that the walk tells
pub await_fault_untabled : (s : State) → is_tabled (await_fault s).kind ≡ false
await_fault_untabled s = by_place s.code.flags.in_function
  where
    by_place : (b : Bool) → is_tabled (cond b faults.AwaitInFunction faults.AwaitParamInAsync) ≡ false
    by_place true = refl
    by_place false = refl

-- what is read where it stands is read there, or behind its fault
pub await_either : {A : Type 0} (Q : Outcome A → Type 0) (p : Reader A) (s : State) → awaits s.code.flags s.at ≡ true
    → (may_await s.code ≡ true → Q (p s)) → (may_await s.code ≡ false → Q (p (noted (await_fault s) s))) → Q (and_then (await_allowed (span_at s.at) s) (λ _. p))
unfolding await_allowed
await_either Q p s h here behind = by_test (may_await s.code) refl
  where
    by_test : (b : Bool) → may_await s.code ≡ b → Q (and_then (cond b (Ok (tt, s)) (fault (await_fault s) s)) (λ _. p))
    by_test true e = here e
    by_test false e = rw (fault_here s (await_fault s) (ap is_error (await_stands s.code.flags s.at h))) (behind e)
