use Rattle.std.proofs.Common.{◌≡◌, Bool, [], length, map}
use Rattle.swc_ecma_parser_reader.specs.State.{loop}
use Rattle.swc_ecma_parser_reader.specs.Reader as rules
use Rattle.swc_ecma_parser_lists.specs.Ends.{ends_at}
use Rattle.swc_ecma_parser_lists.proofs.lists.items_behind.Given as goal

-- Where it is told by those before whether the next can be a directive: what the whole loop gives is what the rest of it gives, and the
-- same is told by those found. An empty list stays empty.
abbrev pub invariant-items : goal.invariant-items
invariant-items g l = let item = g.L.Listed.item l.limit l.at in
    ((first : Bool) → l.initial.directives ≡ rules.directs first (map g.L.Listed.held l.initial.found.items)
    → loop (rules.items_turn item (ends_at l.end) first) (map g.L.Listed.held l.initial.found.items) (g.P.Cursor.seen l.fn.p) ≡ loop (rules.items_turn item (ends_at l.end) first) (map g.L.Listed.held l.found.items) (g.P.Cursor.seen l.p))
    × ((g.P.Cursor.seen l.fn.p).at.left ≡ [] → (g.P.Cursor.seen l.p).at.left ≡ [])
    × ((first : Bool) → l.initial.directives ≡ rules.directs first (map g.L.Listed.held l.initial.found.items) → l.directives ≡ rules.directs first (map g.L.Listed.held l.found.items))

abbrev pub decreases-items : goal.decreases-items
decreases-items g l = length (g.P.Cursor.seen l.p).at.left
