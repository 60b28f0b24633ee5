use Rattle.std.proofs.Common.{◌≡◌, ◌++◌, map}
use Rattle.swc_ecma_parser_module_items.proofs.programs.joined.Given as goal

-- what came so far stands behind the others
abbrev pub invariant-behind : goal.invariant-behind
invariant-behind g l = (map g.T.BuildsItem.item_of l.found.items ≡ map g.T.BuildsItem.item_of l.initial.found.items ++ map g.T.BuildsItem.item_of l.yielded) × (g.P.Cursor.seen l.p ≡ g.P.Cursor.seen l.initial.p)
