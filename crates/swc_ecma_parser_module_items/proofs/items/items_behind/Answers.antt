use Rattle.std.proofs.Common.{true}
use Rattle.swc_ecma_parser_module_items.proofs.items.items_behind.Goals as goal

pub returns-clause-gives : goal.returns-clause-gives
returns-clause-gives g c = λ k. c.items_behind.ensures.gives true k
