-- What is asked of all bytes is asked of those that are left.
use Rattle.std.proofs.Common.{◌≡◌, false, length}
use Rattle.ecma_event_exprs.specs.Literals.{has_old_escape}
use Rattle.ecma_event_exprs.proofs.literals.has_old_escape.Given as goal

abbrev pub invariant-loop-rest : goal.invariant-loop-rest
invariant-loop-rest l = has_old_escape l.is_escaped l.rest ≡ has_old_escape false l.fn.bytes

abbrev pub decreases-loop-rest : goal.decreases-loop-rest
decreases-loop-rest l = length l.rest
