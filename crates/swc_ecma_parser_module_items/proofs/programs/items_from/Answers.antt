use Rattle.std.proofs.Common.{ap, map}
use Rattle.swc_ecma_parser_members.specs.Leading.{leading_of}
use Rattle.swc_ecma_parser_module_reader.proofs.EmptyPrograms.{nothing_behind, none_mapped}
use Rattle.swc_ecma_parser_module_items.proofs.programs.items_from.Goals as goal

pub returns-clause-outright : goal.returns-clause-outright
returns-clause-outright g c = λ e _ l. c.joined.ensures.outright
    (none_mapped g.T.BuildsItem.item_of c.in_ok-behind.behind.items (nothing_behind c.args.limit (g.P.Cursor.seen c.args.p.now) e
    (leading_of g.T.BuildsFunction.decorator_of c.args.front.list) (ap (map g.T.BuildsFunction.decorator_of) l) _ _ c.in_ok-behind.ensures.gives))
