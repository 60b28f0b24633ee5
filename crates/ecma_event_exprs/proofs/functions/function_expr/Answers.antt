-- As any function.
use Rattle.ecma_event_exprs.proofs.functions.function_expr.Goals as goal

pub returns : goal.returns
returns c = rw (← c.deref.ensures) c.function.ensures
