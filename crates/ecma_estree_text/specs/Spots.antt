-- Lines from 1 and columns from 0: a line ends as ECMA-262 has it ("Line Terminators", section 12.3), and a column counts code units of UTF-16.
use Rattle.std.specs.Prelude.{◌≡◌, ℕ, List, [], ◌∷◌, ◌+◌, ◌≤◌, ◌==◌, ◌&&◌, ◌||◌, Bool, true, false, nat_lt, if◌then◌else◌, length, take, get_or}
use Rattle.ecma_estree_text.specs.declared.spot.Mark.{Mark}
use Rattle.ecma_estree_text.specs.declared.spot.Mark.TheVariants as mark
use Rattle.ecma_estree_text.specs.declared.spot.Spot.{Spot}

-- How many units begin with a byte of UTF-8: none in the midst of a character, two with one of four bytes.
abbrev pub unit_count : ℕ → ℕ
unit_count b = if nat_lt b 128 then 1 else if nat_lt b 192 then 0 else if nat_lt b 240 then 1 else 2

abbrev is_return : Mark → Bool
is_return mark.Return = true
is_return _ = false

abbrev mark_second : Mark → ℕ → Mark
mark_second mark.First b = if b == 128 then mark.Second else mark.Plain
mark_second _ b = mark.Plain

-- the mark behind a byte that ends no line: the three bytes of U+2028 and U+2029 are 226, 128, and 168 or 169
abbrev mark_behind : Mark → ℕ → Mark
mark_behind m b = if b == 226 then mark.First else mark_second m b

abbrev ends_line : Mark → ℕ → Bool
ends_line mark.Second b = b == 168 || b == 169
ends_line _ b = false

abbrev next_line : Spot → Mark → Spot
next_line p m = record { line = p.line + 1; column = 0; mark = m }

abbrev same_line : Spot → Spot
same_line p = record { line = p.line; column = 0; mark = mark.Plain }

abbrev along : Spot → ℕ → Mark → Spot
along p b m = record { line = p.line; column = p.column + unit_count b; mark = m }

-- the place behind a byte: 10 is a line feed, 13 a carriage return
abbrev pub spot_behind : Spot → ℕ → Spot
spot_behind p b =
    if b == 10 then (if is_return p.mark then same_line p else next_line p mark.Plain)
    else if b == 13 then next_line p mark.Return
    else if ends_line p.mark b then next_line p mark.Plain
    else along p b (mark_behind p.mark b)

abbrev pub spot_past : Spot → List ℕ → Spot
spot_past p [] = p
spot_past p (b ∷ bs) = spot_past (spot_behind p b) bs

abbrev pub outset : Spot
outset = record { line = 1; column = 0; mark = mark.Plain }

-- the place of a byte; behind the end that of the end
abbrev pub spot_at : List ℕ → ℕ → Spot
spot_at text n = spot_past outset (take n text)

-- one place for each byte, and one for the end
pub record AreSpots (text : List ℕ) (spots : List Spot) : Type 0 where
  pub size : length spots ≡ length text + 1
  pub value : (n : ℕ) → n ≤ length text → (p : Spot) → get_or spots n p ≡ spot_at text n
