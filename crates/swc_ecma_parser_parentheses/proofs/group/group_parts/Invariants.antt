use Rattle.std.proofs.Common.{◌≡◌, length, map}
use Rattle.swc_ecma_parser_reader.specs.State.{loop}
use Rattle.swc_ecma_parser_reader.specs.Arrows as arrows
use Rattle.swc_ecma_parser_reader.specs.Reader as rules
use Rattle.swc_ecma_parser_shared.specs.Covers.{cover_of}
use Rattle.swc_ecma_parser_parentheses.proofs.group.group_parts.Given as goal

-- what the whole loop gives is what the rest of it gives
abbrev pub invariant-parts : goal.invariant-parts
invariant-parts g l =
    let expr = rules.expr (g.G.Readers.depth l.g) in
    let function = rules.function (g.G.Readers.depth l.g) in
    let cover = rules.cover (g.G.Readers.depth l.g) in
    arrows.group_parts expr function cover (g.P.Cursor.seen l.fn.p)
    ≡ loop (arrows.part_turn expr function cover) (map (cover_of g.T.Trees.expr_of) l.found.items) (g.P.Cursor.seen l.p)

abbrev pub decreases-parts : goal.decreases-parts
decreases-parts g l = length (g.P.Cursor.seen l.p).at.left
