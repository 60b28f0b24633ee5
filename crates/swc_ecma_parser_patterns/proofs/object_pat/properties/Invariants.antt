use Rattle.std.proofs.Common.{◌≡◌, length, map}
use Rattle.swc_ecma_parser_reader.specs.State.{loop}
use Rattle.swc_ecma_parser_reader.specs.Patterns as patterns
use Rattle.swc_ecma_parser_reader.specs.Reader as rules
use Rattle.swc_ecma_parser_patterns.proofs.object_pat.properties.Given as goal

-- what the whole loop gives is what the rest of it gives
abbrev pub invariant-properties : goal.invariant-properties
invariant-properties g l =
    let expr = rules.expr (g.G.Readers.depth l.g) in
    let cover = rules.cover (g.G.Readers.depth l.g) in
    let pattern = rules.pattern (g.G.Readers.depth l.g) in
    let element = rules.element (g.G.Readers.depth l.g) in
    patterns.properties expr cover pattern element (g.P.Cursor.seen l.fn.p)
    ≡ loop (patterns.object_turn expr cover pattern element) (map g.T.BuildsObjectPat.pat_prop_of l.found.items) (g.P.Cursor.seen l.p)

abbrev pub decreases-properties : goal.decreases-properties
decreases-properties g l = length (g.P.Cursor.seen l.p).at.left
