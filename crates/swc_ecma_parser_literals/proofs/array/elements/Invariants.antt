use Rattle.std.proofs.Common.{◌≡◌, length}
use Rattle.swc_ecma_parser_reader.specs.State.{loop}
use Rattle.swc_ecma_parser_reader.specs.Expressions as exprs
use Rattle.swc_ecma_parser_reader.specs.Reader as rules
use Rattle.swc_ecma_parser_trees.specs.Parts.{part_of}
use Rattle.swc_ecma_parser_shared.specs.Covers.{covers_of}
use Rattle.swc_ecma_parser_literals.proofs.array.elements.Given as goal

-- what the whole loop gives is what the rest of it gives
abbrev pub invariant-elements : goal.invariant-elements
invariant-elements g l =
    let expr = rules.expr (g.G.Readers.depth l.g) in
    let cover = rules.cover (g.G.Readers.depth l.g) in
    exprs.elements expr cover (g.P.Cursor.seen l.fn.p) ≡ loop (exprs.array_turn expr cover) (covers_of (part_of g.T.BuildsCall.arg_of) l.found) (g.P.Cursor.seen l.p)

abbrev pub decreases-elements : goal.decreases-elements
decreases-elements g l = length (g.P.Cursor.seen l.p).at.left
