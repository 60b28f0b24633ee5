use Rattle.std.proofs.Common.{◌≡◌, length}
use Rattle.swc_ecma_parser_reader.specs.State.{loop}
use Rattle.swc_ecma_parser_reader.specs.Expressions as exprs
use Rattle.swc_ecma_parser_reader.specs.Reader as rules
use Rattle.swc_ecma_parser_shared.specs.Operators.{right}
use Rattle.swc_ecma_parser_shared.proofs.operators.binary_from.Given as goal

-- what the whole loop gives is what the rest of it gives
abbrev pub invariant-operators : goal.invariant-operators
invariant-operators g l =
    let operand = right (g.G.Readers.depth l.g) l.operands in
    let cover = rules.cover (g.G.Readers.depth l.g) in
    exprs.binary_from operand cover l.n l.start (g.T.Trees.expr_of l.fn.x) (g.P.Cursor.seen l.fn.p) ≡ loop (exprs.binary_turn operand cover l.n l.start) (g.T.Trees.expr_of l.x) (g.P.Cursor.seen l.p)

abbrev pub decreases-operators : goal.decreases-operators
decreases-operators g l = length (g.P.Cursor.seen l.p).at.left
