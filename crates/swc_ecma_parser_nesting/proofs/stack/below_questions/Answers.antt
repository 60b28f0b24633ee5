use Rattle.std.proofs.Common.{◌≡◌, true, false, ◌-◌, ap, sym, ◌∙◌, arith}
use Rattle.swc_ecma_parser_nesting.specs.Stacked.{stacked, top_of, is_question, past_questions}
use Rattle.swc_ecma_parser_nesting.proofs.Stacks.{none, past_questions-none, past_questions-one, past_questions-stop, top-stacked, below-stacked}
use Rattle.swc_ecma_parser_nesting.proofs.stack.below_questions.Goals as goal

pub loop-left-preserved : goal.loop-left-preserved
loop-left-preserved c =
    let places = c.args.places.now in
    let left = c.loop-left.left in
    let top = ap is_question (sym (top-stacked places left (omega arith))) ∙ sym c.is_question.ensures ∙ c.if-is_question.true in
    record {
      within = omega (arith, c.loop-left.invariant.within);
      same = c.loop-left.invariant.same ∙ past_questions-one (stacked places left) top ∙ ap past_questions (sym (below-stacked places left));
    }

pub returns-else-is_question-clause-left : goal.returns-else-is_question-clause-left
returns-else-is_question-clause-left c =
    let places = c.args.places.now in
    let left = c.loop-left.left in
    let top = ap is_question (sym (top-stacked places left (omega arith))) ∙ sym c.is_question.ensures ∙ c.if-is_question.false in
    sym (c.loop-left.invariant.same ∙ past_questions-stop (stacked places left) top)

pub returns-after-loop-left-clause-left : goal.returns-after-loop-left-clause-left
returns-after-loop-left-clause-left c =
    let places = c.args.places.now in
    let left = c.loop-left.left in
    let none-left : left ≡ 0 = omega (arith, c.loop-left-test.false) in
    let empty = ap (stacked places) none-left ∙ none places in
    empty ∙ sym (c.loop-left.invariant.same ∙ ap past_questions empty ∙ past_questions-none)
