use Rattle.std.proofs.Common.{◌≡◌, length, map}
use Rattle.swc_ecma_parser_reader.specs.State.{loop}
use Rattle.swc_ecma_parser_reader.specs.Patterns as patterns
use Rattle.swc_ecma_parser_reader.specs.Reader as rules
use Rattle.swc_ecma_parser_patterns.proofs.params.parameters.Given as goal

-- what the whole loop gives is what the rest of it gives
abbrev pub invariant-parameters : goal.invariant-parameters
invariant-parameters g l =
    let expr = rules.expr (g.G.Readers.depth l.g) in
    let cover = rules.cover (g.G.Readers.depth l.g) in
    let pattern = rules.pattern (g.G.Readers.depth l.g) in
    let element = rules.element (g.G.Readers.depth l.g) in
    rules.parameters (g.G.Readers.depth l.g) (g.P.Cursor.seen l.fn.p)
    ≡ loop (patterns.parameters_turn expr cover pattern element) (map g.T.Trees.pat_of l.found.items) (g.P.Cursor.seen l.p)

abbrev pub decreases-parameters : goal.decreases-parameters
decreases-parameters g l = length (g.P.Cursor.seen l.p).at.left
