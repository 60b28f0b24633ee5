-- The bytes so far.
use Rattle.std.proofs.Common.{◌≡◌, ◌++◌, take}
use Rattle.std.specs.List.{flat_map}
use Rattle.ecma_estree_text.specs.Number.{bare_byte}
use Rattle.ecma_estree_text.proofs.number.push_bare.Given as goal

abbrev pub invariant-loop-byte : goal.invariant-loop-byte
invariant-loop-byte l = l.out.items ≡ l.initial.out.items ++ flat_map bare_byte (take l.byte-index l.bytes)
