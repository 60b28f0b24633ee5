-- As any class.
use Rattle.ecma_event_exprs.proofs.classes.class_expr.Goals as goal

pub returns : goal.returns
returns c = rw (← c.deref.ensures) c.class.ensures
