-- Offsets, lines and columns of a text are numbers of 64 bits.
use Rattle.std.proofs.Common.{◌≡◌, ℕ, zero, suc, List, [], ◌∷◌, ◌++◌, ◌+◌, ◌*◌, ◌<◌, ◌≤◌, ◌^◌, ◌==◌, ◌||◌, Bool, true, false, if◌then◌else◌, arith, refl, ap, length, take}
use Rattle.std.proofs.lemmas.Bool.Decides.{nat_tests}
use Rattle.ecma_estree_text.specs.Places.{offset, unit_total}
use Rattle.ecma_estree_text.specs.Spots.{unit_count, spot_behind, spot_past, spot_at, outset}
use Rattle.ecma_estree_text.specs.declared.spot.Mark.{Mark}
use Rattle.ecma_estree_text.specs.declared.spot.Mark.TheVariants as mark
use Rattle.ecma_estree_text.specs.declared.spot.Spot.{Spot}

count_small : (b : ℕ) → unit_count b ≤ 2
count_small b = grind (arith, nat_tests)

total_small : (bs : List ℕ) → unit_total bs ≤ 2 * length bs
total_small [] = omega arith
total_small (b ∷ bs) = let one = count_small b in let rest = total_small bs in omega arith

taken_small : (n : ℕ) (bs : List ℕ) → length (take n bs) ≤ length bs
taken_small zero bs = omega arith
taken_small (suc n) [] = omega arith
taken_small (suc n) (b ∷ bs) = let rest = taken_small n bs in omega arith

pub offset_small : (text : List ℕ) (n : ℕ) → length text < 2 ^ 63 → offset text n < 2 ^ 64
unfolding offset
offset_small text n h = let all = total_small (take n text) in let part = taken_small n text in omega arith

-- at most one line and two columns further
record Near (p q : Spot) : Type 0 where
  line : q.line ≤ p.line + 1
  column : q.column ≤ p.column + 2

abbrev at : (line column : ℕ) → Mark → Spot
at line column m = record { line = line; column = column; mark = m }

one_near : (p : Spot) (b : ℕ) (returns feeds returned ends : Bool) (l m n : Mark)
    → Near p (if feeds then (if returned then at p.line 0 mark.Plain else at (p.line + 1) 0 mark.Plain) else if returns then at (p.line + 1) 0 m
    else if ends then at (p.line + 1) 0 l else at p.line (p.column + unit_count b) n)
one_near p b returns true true ends l m n = record { line = omega arith; column = omega arith }
one_near p b returns true false ends l m n = record { line = omega arith; column = omega arith }
one_near p b true false returned ends l m n = record { line = omega arith; column = omega arith }
one_near p b false false returned true l m n = record { line = omega arith; column = omega arith }
one_near p b false false returned false l m n = let one = count_small b in record { line = omega arith; column = omega arith }

-- the tests of `spot_behind`
abbrev returned : Mark → Bool
returned mark.Return = true
returned _ = false

abbrev ends_line : Mark → ℕ → Bool
ends_line mark.Second b = b == 168 || b == 169
ends_line _ b = false

abbrev second_mark : Mark → ℕ → Mark
second_mark mark.First b = if b == 128 then mark.Second else mark.Plain
second_mark _ b = mark.Plain

abbrev mark_behind : Mark → ℕ → Mark
mark_behind m b = if b == 226 then mark.First else second_mark m b

step_near : (p : Spot) (b : ℕ) → Near p (spot_behind p b)
step_near p b = one_near p b (b == 13) (b == 10) (returned p.mark) (ends_line p.mark b) mark.Plain mark.Return (mark_behind p.mark b)

record Far (p q : Spot) (n : ℕ) : Type 0 where
  pub line : q.line ≤ p.line + n
  pub column : q.column ≤ p.column + 2 * n

past_far : (p : Spot) (bs : List ℕ) → Far p (spot_past p bs) (length bs)
past_far p [] = record { line = omega arith; column = omega arith }
past_far p (b ∷ bs) = let one = step_near p b in let rest = past_far (spot_behind p b) bs in record { line = omega arith; column = omega arith }

pub record IsSmall (p : Spot) : Type 0 where
  pub line : p.line < 2 ^ 64
  pub column : p.column + 1 < 2 ^ 64

pub spot_small : (text : List ℕ) (n : ℕ) → length text < 2 ^ 63 → IsSmall (spot_at text n)
spot_small text n h =
    let far = past_far outset (take n text) in
    let part = taken_small n text in
    record { line = omega arith; column = omega arith }
