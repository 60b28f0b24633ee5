-- The value of the bytes that are left behind the sum.
use Rattle.std.proofs.Common.{◌≡◌, drop}
use Rattle.ecma_estree_text.specs.Number.{value_behind}
use Rattle.ecma_estree_text.proofs.number.value.Given as goal

abbrev pub invariant-loop-byte : goal.invariant-loop-byte
invariant-loop-byte l = value_behind l.radix l.sum (drop l.byte-index l.bytes) ≡ value_behind l.radix 0 l.bytes
