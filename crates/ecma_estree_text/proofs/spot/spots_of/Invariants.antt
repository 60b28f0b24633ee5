-- The places so far.
use Rattle.std.proofs.Common.{◌≡◌, ℕ, ◌+◌, ◌*◌, ◌≤◌, take, length, get_or}
use Rattle.ecma_estree_text.specs.Spots.{spot_at}
use Rattle.ecma_estree_text.specs.declared.spot.Spot.{Spot}
use Rattle.ecma_estree_text.proofs.spot.spots_of.Given as goal

abbrev pub invariant-loop-byte : goal.invariant-loop-byte
invariant-loop-byte l = record {
  spot : l.spot ≡ spot_at l.text l.byte-index;
  line : l.spot.line ≤ l.byte-index + 1;
  column : l.spot.column ≤ 2 * l.byte-index;
  size : length l.spots.items ≡ l.byte-index + 1;
  value : (n : ℕ) → n ≤ l.byte-index → (p : Spot) → get_or l.spots.items n p ≡ spot_at l.text n;
}
