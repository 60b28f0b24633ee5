-- Zeros that are passed change nothing.
use Rattle.std.proofs.Common.{◌≡◌, length}
use Rattle.ecma_estree_text.specs.Number.{past_zeros}
use Rattle.ecma_estree_text.proofs.number.behind_zeros.Given as goal

abbrev pub invariant-loop-rest : goal.invariant-loop-rest
invariant-loop-rest l = past_zeros l.rest ≡ past_zeros l.fn.bytes

abbrev pub decreases-loop-rest : goal.decreases-loop-rest
decreases-loop-rest l = length l.rest
