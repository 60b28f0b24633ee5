-- What is in the box is what the tree of the box says.
use Rattle.std.proofs.Common.{sym}
use Rattle.ecma_event_exprs.proofs.Arms.{arm}
use Rattle.ecma_event_exprs.specs.Events.{used}
use Rattle.ecma_event_walk.proofs.run.boxed_stmt.Goals as goal

pub returns-in-Some : goal.returns-in-Some
returns-in-Some c = arm c.stmt.result _ c.args.walk.now used c.args.x.now.node.tree _ (sym c.in-Some.ensures) c.stmt.ensures
