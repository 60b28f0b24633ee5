use Rattle.std.proofs.Common.{◌≡◌, length, map}
use Rattle.swc_ecma_parser_reader.specs.State.{loop}
use Rattle.swc_ecma_parser_reader.specs.Expressions as exprs
use Rattle.swc_ecma_parser_reader.specs.Reader as rules
use Rattle.swc_ecma_parser_left_sides.proofs.access.arguments.Given as goal

-- what the whole loop gives is what the rest of it gives
abbrev pub invariant-arguments : goal.invariant-arguments
invariant-arguments g l =
    let expr = rules.expr (g.G.Readers.depth l.g) in
    let cover = rules.cover (g.G.Readers.depth l.g) in
    exprs.arguments expr cover l.commas (g.P.Cursor.seen l.fn.p) ≡ loop (exprs.arguments_turn expr cover l.commas) (map g.T.BuildsCall.arg_of l.found.items) (g.P.Cursor.seen l.p)

abbrev pub decreases-arguments : goal.decreases-arguments
decreases-arguments g l = length (g.P.Cursor.seen l.p).at.left
