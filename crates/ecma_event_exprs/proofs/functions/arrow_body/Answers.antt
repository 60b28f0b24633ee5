-- A body that is an expression is walked over as it is.
use Rattle.ecma_event_exprs.proofs.Declared.{arrow_on_ok}
use Rattle.ecma_event_exprs.proofs.functions.arrow_body.Goals as goal

pub returns-in-Expr : goal.returns-in-Expr
returns-in-Expr c = rw (c.in-Expr.is, ← c.in_ok-event.ensures) (arrow_on_ok c.push-in-Expr.result c.in-Expr.x.node.tree _ _ c.push-in-Expr.ensures)
