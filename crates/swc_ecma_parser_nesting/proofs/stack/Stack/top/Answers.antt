use Rattle.std.proofs.Common.{ap, ◌∙◌}
use Rattle.swc_ecma_parser_nesting.specs.Stacked.{top_of}
use Rattle.swc_ecma_parser_nesting.proofs.stack.Stack.top.Goals as goal

pub returns : goal.returns
returns c = c.top_at.ensures ∙ ap top_of c.self.view_is
