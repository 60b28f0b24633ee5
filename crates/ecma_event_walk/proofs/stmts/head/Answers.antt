-- A pattern declares nothing.
use Rattle.ecma_event_exprs.proofs.Declared.{head_on_ok}
use Rattle.ecma_event_walk.proofs.stmts.head.Goals as goal

pub returns-in-Pat : goal.returns-in-Pat
returns-in-Pat c = rw (c.in-Pat.is) (head_on_ok c.pat.result c.in-Pat.x c.args.walk.now _ c.pat.ensures)
