use Rattle.std.proofs.Common.{◌≡◌, length, map}
use Rattle.swc_ecma_parser_reader.specs.State.{loop}
use Rattle.swc_ecma_parser_reader.specs.Patterns as patterns
use Rattle.swc_ecma_parser_reader.specs.Reader as rules
use Rattle.swc_ecma_parser_trees.specs.Parts.{part_of}
use Rattle.swc_ecma_parser_patterns.proofs.pat.elements.Given as goal

-- what the whole loop gives is what the rest of it gives
abbrev pub invariant-elements : goal.invariant-elements
invariant-elements g l =
    let expr = rules.expr (g.G.Readers.depth l.g) in
    let cover = rules.cover (g.G.Readers.depth l.g) in
    let pattern = rules.pattern (g.G.Readers.depth l.g) in
    let element = rules.element (g.G.Readers.depth l.g) in
    patterns.elements expr cover pattern element (g.P.Cursor.seen l.fn.p)
    ≡ loop (patterns.array_turn expr cover pattern element) (map (part_of g.T.Trees.pat_of) l.found.items) (g.P.Cursor.seen l.p)

abbrev pub decreases-elements : goal.decreases-elements
decreases-elements g l = length (g.P.Cursor.seen l.p).at.left
