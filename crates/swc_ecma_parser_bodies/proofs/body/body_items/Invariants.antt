use Rattle.std.proofs.Common.{◌≡◌, length, map}
use Rattle.swc_ecma_parser_grammar.specs.language.Items.{nested_item}
use Rattle.swc_ecma_parser_reader.specs.State.{loop}
use Rattle.swc_ecma_parser_reader.specs.Reader as rules
use Rattle.swc_ecma_parser_bodies.specs.Bodies.{ends_of, directs_of}
use Rattle.swc_ecma_parser_bodies.proofs.body.body_items.Given as goal

-- what the whole loop gives is what the rest of it gives, and whether the next can be a directive is told by those before it
abbrev pub invariant-items : goal.invariant-items
invariant-items g l = let stmt = rules.stmt (g.G.Readers.depth l.g) nested_item in
    (rules.items stmt (ends_of l.body) (directs_of l.body) (g.P.Cursor.seen l.fn.p) ≡ loop (rules.items_turn stmt (ends_of l.body) (directs_of l.body)) (map g.T.Trees.stmt_of l.found.items) (g.P.Cursor.seen l.p))
    × (l.directives ≡ rules.directs (directs_of l.body) (map g.T.Trees.stmt_of l.found.items))

abbrev pub decreases-items : goal.decreases-items
decreases-items g l = length (g.P.Cursor.seen l.p).at.left
