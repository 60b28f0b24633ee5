-- The bytes so far.
use Rattle.std.proofs.Common.{◌≡◌, ◌++◌, take, flat_map}
use Rattle.ecma_page.specs.Page.{escaped}
use Rattle.ecma_page.proofs.block.push_safe.Given as goal

abbrev pub invariant-loop-byte : goal.invariant-loop-byte
invariant-loop-byte l = l.out.items ≡ l.initial.out.items ++ flat_map escaped (take l.byte-index l.json)
