-- What is written, and what is to be written of the bytes that are left.
use Rattle.std.proofs.Common.{◌≡◌, ◌++◌, drop, false}
use Rattle.ecma_estree_text.specs.Number.{point_behind}
use Rattle.ecma_estree_text.proofs.number.push_points.Given as goal

abbrev pub invariant-loop-byte : goal.invariant-loop-byte
invariant-loop-byte l = l.out.items ++ point_behind l.is_behind (drop l.byte-index l.bytes) ≡ l.initial.out.items ++ point_behind false l.bytes
