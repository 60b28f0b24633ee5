use Rattle.std.proofs.Common.{◌≡◌, length}
use Rattle.swc_ecma_parser_reader.specs.Expressions as exprs
use Rattle.swc_ecma_parser_reader.specs.Reader as rules
use Rattle.swc_ecma_parser_trees.specs.Parts.{quasi_of}
use Rattle.swc_ecma_parser_left_sides.proofs.Texts.{rest, pieces}
use Rattle.swc_ecma_parser_left_sides.proofs.templates.pieces_from.Given as goal

-- what the whole loop gives is what the rest of it gives
abbrev pub invariant-pieces : goal.invariant-pieces
invariant-pieces g l =
    let n = g.G.Readers.depth l.g in
    exprs.template_from (rules.expr n) (rules.cover n) l.tagged (quasi_of l.fn.first) (g.P.Cursor.seen l.fn.p)
    ≡ rest n l.tagged l.is_last (pieces g.T.Trees.expr_of l.exprs.items l.quasis.items) (g.P.Cursor.seen l.p)

abbrev pub decreases-pieces : goal.decreases-pieces
decreases-pieces g l = length (g.P.Cursor.seen l.p).at.left
