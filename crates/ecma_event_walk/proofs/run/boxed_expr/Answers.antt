-- What is in the box is what the tree of the box says.
use Rattle.std.proofs.Common.{sym}
use Rattle.ecma_event_exprs.proofs.Arms.{arm}
use Rattle.ecma_event_walk.proofs.run.boxed_expr.Goals as goal

pub returns-in-Some : goal.returns-in-Some
returns-in-Some c = arm c.expr.result _ c.args.walk.now c.args.role c.args.x.now.node.tree _ (sym c.in-Some.ensures) c.expr.ensures
