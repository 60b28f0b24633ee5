-- Places as JavaScript's tools count them: an offset counts code units of UTF-16 (ECMA-262, "The String Type", section 6.1.4), a line is
-- counted from 1, and a column from 0.
use Rattle.std.specs.Prelude.{◌≡◌, ℕ, List, [], ◌∷◌, ◌++◌, ◌+◌, ◌≤◌, Bool, cond, codes, decimal, length, take, slice_index}
use Rattle.ecma_estree_text.specs.Spots.{unit_count, spot_at}
use Rattle.ecma_estree_text.specs.declared.spot.Spot.{Spot}

-- a text, and what is written of its places besides their offsets
pub record Placed : Type 0 where
  pub text : List ℕ
  pub has_locations : Bool
  pub has_ranges : Bool

abbrev pub unit_total : List ℕ → ℕ
unit_total [] = 0
unit_total (b ∷ bs) = unit_count b + unit_total bs

-- how many stand before a byte; behind the end all
unfoldable pub offset : List ℕ → ℕ → ℕ
offset text n = unit_total (take n text)

-- one count for each byte, and one for the end
pub record AreCounts (text : List ℕ) (counts : List ℕ) : Type 0 where
  pub size : length counts ≡ length text + 1
  pub value : (n : ℕ) → n ≤ length text → slice_index counts n ≡ unit_total (take n text)

-- a line and a column
unfoldable pub spot_text : Spot → List ℕ
spot_text p = codes "{\"line\":" ++ (decimal p.line ++ (codes ",\"column\":" ++ (decimal p.column ++ codes "}")))

abbrev pub spots_text : (start end : Spot) → List ℕ
spots_text start end = codes ",\"loc\":{\"start\":" ++ (spot_text start ++ (codes ",\"end\":" ++ (spot_text end ++ codes "}")))

abbrev pub loc_text : Placed → (start end : ℕ) → List ℕ
loc_text x start end = spots_text (spot_at x.text start) (spot_at x.text end)

abbrev pub range_text : Placed → (start end : ℕ) → List ℕ
range_text x start end = codes ",\"range\":[" ++ (decimal (offset x.text start) ++ (codes "," ++ (decimal (offset x.text end) ++ codes "]")))

-- the fields that tell a place, between two offsets in bytes
unfoldable pub place_fields : Placed → (start end : ℕ) → List ℕ
place_fields x start end =
    codes "\"start\":" ++ (decimal (offset x.text start) ++ (codes ",\"end\":" ++ (decimal (offset x.text end)
    ++ (cond x.has_locations (loc_text x start end) [] ++ cond x.has_ranges (range_text x start end) []))))
