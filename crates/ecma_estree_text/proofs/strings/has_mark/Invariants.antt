-- Whether it stands in the bytes that are left.
use Rattle.std.proofs.Common.{◌≡◌, length}
use Rattle.ecma_estree_text.specs.Strings.{has_mark}
use Rattle.ecma_estree_text.proofs.strings.has_mark.Given as goal

abbrev pub invariant-loop-rest : goal.invariant-loop-rest
invariant-loop-rest l = has_mark l.rest ≡ has_mark l.fn.bytes

abbrev pub decreases-loop-rest : goal.decreases-loop-rest
decreases-loop-rest l = length l.rest
