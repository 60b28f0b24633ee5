use Rattle.std.proofs.Common.{◌≡◌, length}
use Rattle.swc_ecma_parser_reader.specs.State.{loop}
use Rattle.swc_ecma_parser_reader.specs.Expressions as exprs
use Rattle.swc_ecma_parser_reader.specs.Reader as rules
use Rattle.swc_ecma_parser_shared.specs.Covers.{covers_of}
use Rattle.swc_ecma_parser_literals.proofs.object.properties.Given as goal

-- what the whole loop gives is what the rest of it gives
abbrev pub invariant-properties : goal.invariant-properties
invariant-properties g l =
    let expr = rules.expr (g.G.Readers.depth l.g) in
    let cover = rules.cover (g.G.Readers.depth l.g) in
    exprs.properties expr cover (rules.function (g.G.Readers.depth l.g)) (g.P.Cursor.seen l.fn.p) ≡ loop (exprs.object_turn expr cover (rules.function (g.G.Readers.depth l.g))) (covers_of g.T.BuildsObject.prop_of l.found) (g.P.Cursor.seen l.p)

abbrev pub decreases-properties : goal.decreases-properties
decreases-properties g l = length (g.P.Cursor.seen l.p).at.left
