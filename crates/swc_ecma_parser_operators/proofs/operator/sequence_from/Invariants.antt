use Rattle.std.proofs.Common.{◌≡◌, ◌∷◌, [], length, map}
use Rattle.swc_ecma_parser_reader.specs.State.{loop}
use Rattle.swc_ecma_parser_reader.specs.Expressions as exprs
use Rattle.swc_ecma_parser_reader.specs.Reader as rules
use Rattle.swc_ecma_parser_operators.proofs.operator.sequence_from.Given as goal

-- what the whole loop gives is what the rest of it gives
abbrev pub invariant-sequence : goal.invariant-sequence
invariant-sequence g l =
    let expr = rules.expr (g.G.Readers.depth l.g) in
    let cover = rules.cover (g.G.Readers.depth l.g) in
    let function = rules.function (g.G.Readers.depth l.g) in
    loop (exprs.sequence_turn expr cover function) (g.T.Trees.expr_of l.fn.x ∷ []) (g.P.Cursor.seen l.fn.p) ≡ loop (exprs.sequence_turn expr cover function) (map g.T.Trees.expr_of l.found.items) (g.P.Cursor.seen l.p)

abbrev pub decreases-sequence : goal.decreases-sequence
decreases-sequence g l = length (g.P.Cursor.seen l.p).at.left
