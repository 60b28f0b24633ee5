-- An expression that is called is walked over as it is.
use Rattle.ecma_event_exprs.proofs.Declared.{as_expr_on_ok}
use Rattle.ecma_event_exprs.specs.Events.{used}
use Rattle.ecma_event_exprs.proofs.exprs.called.Goals as goal

pub returns : goal.returns
returns c = as_expr_on_ok c.push.result used c.args.x.now.node.tree _ _ c.push.ensures
