use Rattle.std.proofs.Common.{length, ap, sym, ◌∙◌}
use Rattle.swc_ecma_parser_nesting.proofs.Stacks.{length-stacked}
use Rattle.swc_ecma_parser_nesting.proofs.stack.Stack.len.Goals as goal

pub returns : goal.returns
returns c = sym (ap length (sym c.self.view_is) ∙ length-stacked c.self.inside.places c.self.inside.count)
