use Rattle.std.proofs.Common.{◌≡◌, length}
use Rattle.swc_ecma_parser_reader.specs.State.{loop}
use Rattle.swc_ecma_parser_reader.specs.Expressions as exprs
use Rattle.swc_ecma_parser_reader.specs.Reader as rules
use Rattle.swc_ecma_parser_left_sides.proofs.left.left_from.Given as goal

-- what the whole loop gives is what the rest of it gives
abbrev pub invariant-left : goal.invariant-left
invariant-left g l =
    let expr = rules.expr (g.G.Readers.depth l.g) in
    let cover = rules.cover (g.G.Readers.depth l.g) in
    exprs.left_from expr cover l.calls l.start (g.T.Trees.expr_of l.fn.x) (g.P.Cursor.seen l.fn.p) ≡ loop (exprs.left_turn expr cover l.calls l.start) (g.T.Trees.expr_of l.x) (g.P.Cursor.seen l.p)

abbrev pub decreases-left : goal.decreases-left
decreases-left g l = length (g.P.Cursor.seen l.p).at.left
