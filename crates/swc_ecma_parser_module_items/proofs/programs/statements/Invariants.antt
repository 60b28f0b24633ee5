use Rattle.std.proofs.Common.{◌≡◌, true, [], length, map}
use Rattle.swc_ecma_parser_reader.specs.Reader.{directs}
use Rattle.swc_ecma_parser_reader.specs.State.{loop}
use Rattle.swc_ecma_parser_module_reader.specs.Programs.{front, front_turn}
use Rattle.swc_ecma_parser_module_items.proofs.programs.statements.Given as goal

-- what the whole loop gives is what the rest of it gives, an empty list stays empty, and whether the next can be a directive is told
-- by those before it
abbrev pub invariant-statements : goal.invariant-statements
invariant-statements g l =
    (front l.limit (g.P.Cursor.seen l.fn.p) ≡ loop (front_turn l.limit) (map g.T.Trees.stmt_of l.found.items) (g.P.Cursor.seen l.p))
    × ((g.P.Cursor.seen l.fn.p).at.left ≡ [] → (g.P.Cursor.seen l.p).at.left ≡ [])
    × (l.directives ≡ directs true (map g.T.Trees.stmt_of l.found.items))

abbrev pub decreases-statements : goal.decreases-statements
decreases-statements g l = length (g.P.Cursor.seen l.p).at.left
