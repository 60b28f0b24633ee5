use Rattle.std.proofs.Common.{◌≡◌, ◌≤◌}
use Rattle.swc_ecma_parser_nesting.specs.Stacked.{stacked, past_questions}
use Rattle.swc_ecma_parser_nesting.proofs.stack.below_questions.Given as goal

abbrev pub invariant-loop-left : goal.invariant-loop-left
invariant-loop-left l = record {
  within : l.left ≤ l.fn.count;
  same : past_questions (stacked l.places l.fn.count) ≡ past_questions (stacked l.places l.left);
}

abbrev pub decreases-loop-left : goal.decreases-loop-left
decreases-loop-left l = l.left
