-- How great a column can be.
use Rattle.std.proofs.Common.{◌≡◌, ℕ, List, [], ◌∷◌, ◌+◌, ◌*◌, ◌≤◌, ◌<◌, ◌^◌, arith, length, length-take, take}
use Rattle.std.proofs.lemmas.Bool.Decides.{nat_tests}
use Rattle.ecma_estree_text.specs.Spots.{outset, spot_behind, spot_past, spot_at}
use Rattle.ecma_estree_text.specs.declared.spot.Spot.{Spot}

behind_bound : (s : Spot) (b : ℕ) → (spot_behind s b).column ≤ s.column + 2
behind_bound s b = grind (arith, nat_tests)

past_bound : (s : Spot) (bs : List ℕ) → (spot_past s bs).column ≤ s.column + 2 * length bs
past_bound s [] = omega arith
past_bound s (b ∷ bs) =
    let one = behind_bound s b in
    let rest = past_bound (spot_behind s b) bs in
    omega arith

pub column_bound : (text : List ℕ) (n : ℕ) → length text < 2 ^ 32 → (spot_at text n).column < 2 ^ 34
column_bound text n h =
    let past = past_bound outset (take n text) in
    let size = length-take n text in
    omega arith
