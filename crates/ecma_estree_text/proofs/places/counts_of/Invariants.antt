-- The counts so far.
use Rattle.std.proofs.Common.{◌≡◌, ℕ, ◌+◌, ◌*◌, ◌≤◌, take, length, slice_index}
use Rattle.ecma_estree_text.specs.Places.{unit_total}
use Rattle.ecma_estree_text.proofs.places.counts_of.Given as goal

abbrev pub invariant-loop-byte : goal.invariant-loop-byte
invariant-loop-byte l = record {
  count : l.count ≡ unit_total (take l.byte-index l.text);
  bound : l.count ≤ 2 * l.byte-index;
  size : length l.counts.items ≡ l.byte-index + 1;
  value : (n : ℕ) → n ≤ l.byte-index → slice_index l.counts.items n ≡ unit_total (take n l.text);
}
