use Rattle.std.proofs.Common.{◌≡◌, length}
use Rattle.swc_ecma_parser_reader.specs.Decorators as decorators
use Rattle.swc_ecma_parser_reader.specs.Reader as rules
use Rattle.swc_ecma_parser_reader.specs.State.{loop}
use Rattle.swc_ecma_parser_operators.proofs.decorator.chain_from.Given as goal

-- what the whole loop gives is what the rest of it gives
abbrev pub invariant-chain : goal.invariant-chain
invariant-chain g l =
    let expr = rules.expr (g.G.Readers.depth l.g) in
    let cover = rules.cover (g.G.Readers.depth l.g) in
    decorators.chain_from expr cover l.start (g.T.Trees.expr_of l.fn.x) (g.P.Cursor.seen l.fn.p) ≡ loop (decorators.chain_turn expr cover l.start) (g.T.Trees.expr_of l.x) (g.P.Cursor.seen l.p)

abbrev pub decreases-chain : goal.decreases-chain
decreases-chain g l = length (g.P.Cursor.seen l.p).at.left
