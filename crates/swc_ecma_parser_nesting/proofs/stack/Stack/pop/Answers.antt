use Rattle.std.proofs.Common.{ap, ◌∙◌}
use Rattle.swc_ecma_parser_nesting.specs.Stacked.{stacked, below_top}
use Rattle.swc_ecma_parser_nesting.proofs.Stacks.{below-stacked}
use Rattle.swc_ecma_parser_nesting.proofs.stack.Stack.pop.Goals as goal

pub returns-clause-rest : goal.returns-clause-rest
returns-clause-rest c =
    ap (stacked c.self.inside.places) c.saturating_sub-self-inside.ensures
    ∙ below-stacked c.self.inside.places c.self.inside.count ∙ ap below_top c.self.view_is
