use Rattle.std.proofs.Common.{◌≡◌, map}
use Rattle.swc_ecma_parser_module_items.proofs.programs.as_items.Given as goal

-- what was made is what came so far
abbrev pub invariant-stmts : goal.invariant-stmts
invariant-stmts g l = (map g.T.BuildsItem.item_of l.found.items ≡ map g.T.Trees.stmt_of l.yielded) × (g.P.Cursor.seen l.p ≡ g.P.Cursor.seen l.initial.p)
