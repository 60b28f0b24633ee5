use Rattle.std.proofs.Common.{sym, ◌∙◌}
use Rattle.std.proofs.lemmas.Result.{err_from_is_err_and}
use Rattle.swc_ecma_parser_shared.proofs.Operations.{binary_err, operated_shorter}
use Rattle.swc_ecma_parser_shared.proofs.operators.binary_from.Goals as goal

pub returns-in_err-x-in-Some : goal.returns-in_err-x-in-Some
returns-in_err-x-in-Some g c =
    let p = err_from_is_err_and c.from_residual.result c.from_residual.ensures.1 in
    rw (p.1, p.2) (λ h. c.operators.invariant ∙ binary_err (g.G.Readers.depth c.args.g.now) c.args.operands c.args.start (g.T.Trees.expr_of c.operators.x) (g.P.Cursor.seen c.operators.p) c.args.n _ _
    (sym c.in-Some.ensures) (c.in_err-x-in-Some.ensures h))

pub operators-smaller : goal.operators-smaller
operators-smaller g c = operated_shorter (g.G.Readers.depth c.args.g.now) c.args.operands c.args.start (g.T.Trees.expr_of c.operators.x) (g.P.Cursor.seen c.operators.p) _ _ (g.P.Cursor.seen c.operated.new.p) c.in_ok-x-in-Some.ensures
