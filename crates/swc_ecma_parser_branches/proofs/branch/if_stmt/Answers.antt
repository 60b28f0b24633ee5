use Rattle.std.proofs.Common.{map, sym, ◌∙◌}
use Rattle.std.proofs.lemmas.List.{map_push}
use Rattle.std.proofs.lemmas.Result.{err_from_is_err_and}
use Rattle.swc_ecma_parser_reader.proofs.Chains.{chain_shorter}
use Rattle.swc_ecma_parser_trees.specs.Parts.{part_of}
use Rattle.swc_ecma_parser_branches.specs.Links.{link_of}
use Rattle.swc_ecma_parser_branches.proofs.Links.{skipped, chain, chain_err, chain_more, chain_last, chain_last_err, last_gives}
use Rattle.swc_ecma_parser_branches.proofs.branch.if_stmt.Goals as goal

pub returns-in_err-link : goal.returns-in_err-link
returns-in_err-link g c =
    let p = err_from_is_err_and c.from_residual.result c.from_residual.ensures.1 in
    let view = link_of g.T.Trees.expr_of g.T.Trees.stmt_of in
    rw (p.1, p.2) (λ h. chain_err (g.G.Readers.depth c.args.g.now) (chain (g.G.Readers.depth c.args.g.now) (g.P.Cursor.seen c.args.p.now)) (map view c.links.links.items) (g.P.Cursor.seen c.links.p) c.links.invariant _ (c.in_err-link.ensures h))

pub returns-in_err-alt : goal.returns-in_err-alt
returns-in_err-alt g c =
    let p = err_from_is_err_and c.from_residual-in_err-alt.result c.from_residual-in_err-alt.ensures.1 in
    let view = link_of g.T.Trees.expr_of g.T.Trees.stmt_of in
    rw (p.1, p.2) (λ h. chain_last_err (g.G.Readers.depth c.args.g.now) (chain (g.G.Readers.depth c.args.g.now) (g.P.Cursor.seen c.args.p.now)) (map view c.links.links.items) (g.P.Cursor.seen c.links.p) c.links.invariant (view c.in_ok-link.link) (g.P.Cursor.seen c.next_link.new.p)
    c.in_ok-link.ensures _ (sym c.goes_on.ensures ∙ c.if-not-goes_on.true) (c.in_err-alt.ensures h))

pub returns-then-not-goes_on : goal.returns-then-not-goes_on
returns-then-not-goes_on g c =
    let view = link_of g.T.Trees.expr_of g.T.Trees.stmt_of in
    let ls = map view c.links.links.items in
    let l = view c.in_ok-link.link in
    let y = part_of g.T.Trees.stmt_of c.in_ok-alt.alt in
    let u = g.P.Cursor.seen c.alternative.new.p in
    let whole = chain_last (g.G.Readers.depth c.args.g.now) (chain (g.G.Readers.depth c.args.g.now) (g.P.Cursor.seen c.args.p.now)) ls (g.P.Cursor.seen c.links.p) c.links.invariant l (g.P.Cursor.seen c.next_link.new.p)
    c.in_ok-link.ensures y u (sym c.goes_on.ensures ∙ c.if-not-goes_on.true) c.in_ok-alt.ensures in
    last_gives g.T.Trees.stmt_of (chain (g.G.Readers.depth c.args.g.now) (g.P.Cursor.seen c.args.p.now)) ls l y (g.T.Trees.stmt_of c.in_ok-last.last) u (g.P.Cursor.seen c.closed.new.p) (g.P.Cursor.seen c.enclosed.new.p) c.enclosed.result whole
    c.in_ok-last.ensures.made c.in_ok-last.ensures.state c.enclosed.ensures.made c.enclosed.ensures.state c.enclosed.ensures.err

pub links-smaller : goal.links-smaller
links-smaller g c =
    let view = link_of g.T.Trees.expr_of g.T.Trees.stmt_of in
    let t = g.P.Cursor.seen c.next_link.new.p in
    rw (c.in_ok-pushed.ensures.state, skipped t _ c.in_ok-skip.ensures)
    (chain_shorter (g.G.Readers.depth c.args.g.now) (g.P.Cursor.seen c.links.p) (view c.in_ok-link.link) t c.in_ok-link.ensures (sym c.goes_on.ensures ∙ c.if-not-goes_on.false))

pub links-preserved : goal.links-preserved
links-preserved g c =
    let view = link_of g.T.Trees.expr_of g.T.Trees.stmt_of in
    let t = g.P.Cursor.seen c.next_link.new.p in
    rw (c.in_ok-pushed.ensures.items, map_push, c.in_ok-pushed.ensures.state, skipped t _ c.in_ok-skip.ensures)
    (chain_more (g.G.Readers.depth c.args.g.now) (chain (g.G.Readers.depth c.args.g.now) (g.P.Cursor.seen c.args.p.now)) (map view c.links.links.items) (g.P.Cursor.seen c.links.p) c.links.invariant (view c.in_ok-link.link) t c.in_ok-link.ensures (sym c.goes_on.ensures ∙ c.if-not-goes_on.false))
