use Rattle.std.proofs.Common.{ap, ◌∙◌}
use Rattle.swc_ecma_parser_nesting.specs.Stacked.{past_questions, top_of}
use Rattle.swc_ecma_parser_nesting.proofs.stack.Stack.unquestioned.Goals as goal

pub returns : goal.returns
returns c = c.top_at.ensures ∙ ap top_of (c.below_questions.ensures.left ∙ ap past_questions c.self.view_is)
