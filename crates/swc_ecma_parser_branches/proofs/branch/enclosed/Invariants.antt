use Rattle.std.proofs.Common.{◌≡◌, length, map}
use Rattle.swc_ecma_parser_branches.specs.Links.{around, link_of}
use Rattle.swc_ecma_parser_branches.proofs.branch.enclosed.Given as goal

-- the links that are left make of the statement what all make of the last
abbrev pub invariant-links : goal.invariant-links
invariant-links g l =
    let view = link_of g.T.Trees.expr_of g.T.Trees.stmt_of in
    let last = (g.P.Cursor.seen l.fn.p).at.last in
    (around last (map view l.fn.links.items) (g.T.Trees.stmt_of l.fn.last) ≡ around last (map view l.links.items) (g.T.Trees.stmt_of l.stmt)) × (g.P.Cursor.seen l.p ≡ g.P.Cursor.seen l.fn.p)

abbrev pub decreases-links : goal.decreases-links
decreases-links g l = length l.links.items
