-- What is asked of all others is asked of those that are left.
use Rattle.std.proofs.Common.{◌≡◌, length}
use Rattle.ecma_event_exprs.specs.Literals.{excludes_any}
use Rattle.ecma_event_exprs.proofs.literals.excludes_any.Given as goal

abbrev pub invariant-loop-rest : goal.invariant-loop-rest
invariant-loop-rest l = excludes_any l.fn.flag l.rest ≡ excludes_any l.fn.flag l.fn.others

abbrev pub decreases-loop-rest : goal.decreases-loop-rest
decreases-loop-rest l = length l.rest
