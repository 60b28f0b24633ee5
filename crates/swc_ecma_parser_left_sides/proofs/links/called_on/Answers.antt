use Rattle.std.proofs.Common.{sym, subst, ◌∙◌}
use Rattle.swc_ecma_parser_reader.specs.Expressions as exprs
use Rattle.swc_ecma_parser_reader.specs.Reader.{expr, cover}
use Rattle.swc_ecma_parser_reader.specs.State.{GivesAs}
use Rattle.swc_ecma_parser_left_sides.proofs.Turns.{unlinked}
use Rattle.swc_ecma_parser_left_sides.proofs.links.called_on.Goals as goal

pub returns : goal.returns
returns g c =
    let n = g.G.Readers.depth c.args.g.now in
    let x = g.T.Trees.expr_of c.args.x in
    subst (λ o. GivesAs g.T.Trees.expr_of o c.called.result (g.P.Cursor.seen c.called.new.p))
    (sym (unlinked x (exprs.called (expr n) (cover n) c.args.start x (g.P.Cursor.seen c.args.p.now)) (sym c.is_chain.ensures ∙ c.if-is_chain.false)))
    c.called.ensures
