-- What is asked of all flags is asked of those that are left.
use Rattle.std.proofs.Common.{◌≡◌, length}
use Rattle.ecma_event_exprs.specs.Literals.{are_flags}
use Rattle.ecma_event_exprs.proofs.literals.are_flags.Given as goal

abbrev pub invariant-loop-rest : goal.invariant-loop-rest
invariant-loop-rest l = are_flags l.rest ≡ are_flags l.fn.bytes

abbrev pub decreases-loop-rest : goal.decreases-loop-rest
decreases-loop-rest l = length l.rest
