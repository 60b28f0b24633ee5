use Rattle.std.proofs.Common.{◌≡◌, length, map}
use Rattle.swc_ecma_parser_reader.specs.State.{loop}
use Rattle.swc_ecma_parser_reader.specs.AsyncArrows as async_arrows
use Rattle.swc_ecma_parser_reader.specs.Reader as rules
use Rattle.swc_ecma_parser_parentheses.specs.Groups.{argument_of}
use Rattle.swc_ecma_parser_parentheses.proofs.arguments.either_arguments.Given as goal

-- what the whole loop gives is what the rest of it gives
abbrev pub invariant-arguments : goal.invariant-arguments
invariant-arguments g l =
    let expr = rules.expr (g.G.Readers.depth l.g) in
    let cover = rules.cover (g.G.Readers.depth l.g) in
    async_arrows.either_arguments expr cover (g.P.Cursor.seen l.fn.p)
    ≡ loop (async_arrows.either_turn expr cover) (map (argument_of g.T.Trees.expr_of) l.found.items) (g.P.Cursor.seen l.p)

abbrev pub decreases-arguments : goal.decreases-arguments
decreases-arguments g l = length (g.P.Cursor.seen l.p).at.left
