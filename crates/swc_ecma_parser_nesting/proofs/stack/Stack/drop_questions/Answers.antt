use Rattle.std.proofs.Common.{ap, ◌∙◌}
use Rattle.swc_ecma_parser_nesting.specs.Stacked.{past_questions}
use Rattle.swc_ecma_parser_nesting.proofs.stack.Stack.drop_questions.Goals as goal

pub returns : goal.returns
returns c = c.below_questions-self-inside.ensures.left ∙ ap past_questions c.self.view_is
