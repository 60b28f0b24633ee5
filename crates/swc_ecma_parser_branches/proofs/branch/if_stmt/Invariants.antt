use Rattle.std.proofs.Common.{◌≡◌, length, map}
use Rattle.swc_ecma_parser_branches.specs.Links.{link_of}
use Rattle.swc_ecma_parser_branches.proofs.Links.{chain, enclosing}
use Rattle.swc_ecma_parser_branches.proofs.branch.if_stmt.Given as goal

-- the whole chain is what the links so far make of the rest
abbrev pub invariant-links : goal.invariant-links
invariant-links g l = chain (g.G.Readers.depth l.g) (g.P.Cursor.seen l.fn.p) ≡ enclosing (map (link_of g.T.Trees.expr_of g.T.Trees.stmt_of) l.links.items) (chain (g.G.Readers.depth l.g) (g.P.Cursor.seen l.p))

abbrev pub decreases-links : goal.decreases-links
decreases-links g l = length (g.P.Cursor.seen l.p).at.left
