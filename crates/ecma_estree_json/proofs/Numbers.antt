-- How numbers are read.
use Rattle.std.proofs.Common.{◌≡◌, ℕ, List, [], ◌∷◌, ◌++◌, ◌+◌, ◌-◌, ◌*◌, ◌/◌, ◌%◌, ◌^◌, ◌<◌, ◌≤◌, ◌==◌, ◌&&◌, ◌||◌, Bool, true, false, not, nat_lt, if◌then◌else◌, zero, suc, inl, inr, arith, refl, ap, ap₂, sym, ◌∙◌, append_assoc, decimal}
use Rattle.std.proofs.lemmas.Bool.Decides.{nat_tests, eqb_tells}
use Rattle.std.proofs.lemmas.Fmt.{decimal_by_steps}
use Rattle.ecma_estree_json.specs.Reading.{is_digit, is_numeral, numeral, behind_numeral, Place, start, minus, zero_alone, digits, point, fraction, exponent, sign, power, wrong, is_exponent, whole_part, behind_whole, next_place, place_behind, is_number, may_end}
use Rattle.ecma_estree_json.proofs.Chars.{and_yes}

abbrev pub all_numeral : List ℕ → Bool
all_numeral [] = true
all_numeral (b ∷ bs) = is_numeral b && all_numeral bs

-- it begins with no byte of a number
abbrev pub stops : List ℕ → Bool
stops [] = true
stops (b ∷ bs) = not (is_numeral b)

if_no : {A : Type 0} (t : Bool) (x y : A) → not t ≡ true → (if t then x else y) ≡ y
if_no true x y h = cc
if_no false x y h = refl

numeral_stops : (rest : List ℕ) → stops rest ≡ true → numeral rest ≡ []
numeral_stops [] h = refl
numeral_stops (b ∷ bs) h = if_no (is_numeral b) (b ∷ numeral bs) [] h

behind_stops : (rest : List ℕ) → stops rest ≡ true → behind_numeral rest ≡ rest
behind_stops [] h = refl
behind_stops (b ∷ bs) h = if_no (is_numeral b) (behind_numeral bs) (b ∷ bs) h

pub numeral_read : (ds rest : List ℕ) → all_numeral ds ≡ true → stops rest ≡ true → numeral (ds ++ rest) ≡ ds
numeral_read [] rest h g = numeral_stops rest g
numeral_read (b ∷ bs) rest h g =
    let p = and_yes (is_numeral b) (all_numeral bs) h in
    rw (p.0) (ap (λ ds. b ∷ ds) (numeral_read bs rest p.1 g))

pub behind_read : (ds rest : List ℕ) → all_numeral ds ≡ true → stops rest ≡ true → behind_numeral (ds ++ rest) ≡ rest
behind_read [] rest h g = behind_stops rest g
behind_read (b ∷ bs) rest h g =
    let p = and_yes (is_numeral b) (all_numeral bs) h in
    rw (p.0) (behind_read bs rest p.1 g)

-- ---- decimal digits are a number

-- a byte that is a digit
abbrev pub glyph : ℕ → ℕ
glyph d = 48 + d

digit_is : (d : ℕ) → d < 10 → is_digit (48 + d) ≡ true
digit_is d h = grind (arith, nat_tests)

no_minus : (d : ℕ) → (48 + d == 45) ≡ false
no_minus d = grind (arith, nat_tests)

some_zero : (d : ℕ) → 0 < d → (48 + d == 48) ≡ false
some_zero d h = grind (arith, nat_tests)

abbrev Ends : ℕ → List ℕ → Type 0
Ends n ds = (n ≡ 0 → place_behind start ds ≡ zero_alone) × (0 < n → place_behind start ds ≡ digits)

places_behind : (p : Place) (xs ys : List ℕ) → place_behind p (xs ++ ys) ≡ place_behind (place_behind p xs) ys
places_behind p [] ys = refl
places_behind p (b ∷ bs) ys = places_behind (next_place p b) bs ys

one_ends : (n : ℕ) → n < 10 → Ends n ((48 + n) ∷ [])
one_ends n h = ((λ e. rw e refl), λ g. rw (no_minus n, some_zero n g, digit_is n h) refl)

more_ends : (n : ℕ) (ds : List ℕ) → 10 ≤ n → Ends (n / 10) ds → Ends n (ds ++ ((48 + n % 10) ∷ []))
more_ends n ds h d = (
  (λ e. absurd (omega arith)),
  λ g.
      places_behind start ds ((48 + n % 10) ∷ []) ∙ ap (λ p. place_behind p ((48 + n % 10) ∷ [])) (d.1 (omega arith)) ∙ rw (digit_is (n % 10) (omega arith)) refl,
)

ends_number : (n : ℕ) (ds : List ℕ) → Ends n ds → is_number ds ≡ true
ends_number zero ds d = ap may_end (d.0 refl)
ends_number (suc n) ds d = ap may_end (d.1 (omega arith))

pub decimal_number : (n : ℕ) → n < 2 ^ 64 → is_number (decimal n) ≡ true
decimal_number n h = ends_number n (decimal n) (decimal_by_steps Ends one_ends more_ends n h)

-- ---- what is a number is made of the bytes of one

or_no : (a b : Bool) → (a || b) ≡ false → (a ≡ false) × (b ≡ false)
or_no true b h = cc
or_no false b h = (refl, h)

-- a byte of no number
record Other (b : ℕ) : Type 0 where
  digit : is_digit b ≡ false
  zero_digit : (b == 48) ≡ false
  power_mark : is_exponent b ≡ false
  plus : (b == 43) ≡ false
  dash : (b == 45) ≡ false
  dot : (b == 46) ≡ false

pub other_than : (b c : ℕ) (f : ℕ → Bool) → f c ≡ true → f b ≡ false → (b == c) ≡ false
other_than b c f h g = elim (eqb_tells b c) [ inl p ↦ cc | inr p ↦ p.0 ]

other_tests : (b : ℕ) → is_numeral b ≡ false → Other b
other_tests b h =
    let p = or_no (is_digit b || is_exponent b || b == 43 || b == 45) (b == 46) h in
    let q = or_no (is_digit b || is_exponent b || b == 43) (b == 45) p.0 in
    let r = or_no (is_digit b || is_exponent b) (b == 43) q.0 in
    let s = or_no (is_digit b) (is_exponent b) r.0 in
    record { digit = s.0; zero_digit = other_than b 48 is_digit refl s.0; power_mark = s.1; plus = r.1; dash = q.1; dot = p.1 }

no_whole : (b : ℕ) → Other b → whole_part b ≡ wrong
no_whole b o = rw (o.zero_digit, o.digit) refl

no_more : (b : ℕ) → Other b → behind_whole b ≡ wrong
no_more b o = rw (o.dot, o.power_mark) refl

next_wrong : (p : Place) (b : ℕ) → Other b → next_place p b ≡ wrong
next_wrong start b o = rw (o.dash) (no_whole b o)
next_wrong minus b o = no_whole b o
next_wrong zero_alone b o = no_more b o
next_wrong digits b o = rw (o.digit) (no_more b o)
next_wrong point b o = rw (o.digit) refl
next_wrong fraction b o = rw (o.digit, o.power_mark) refl
next_wrong exponent b o = rw (o.plus, o.dash, o.digit) refl
next_wrong sign b o = rw (o.digit) refl
next_wrong power b o = rw (o.digit) refl
next_wrong wrong b o = refl

wrong_stays : (bs : List ℕ) → place_behind wrong bs ≡ wrong
wrong_stays [] = refl
wrong_stays (b ∷ bs) = wrong_stays bs

numeral_if : (t : Bool) (b : ℕ) (p : Place) (bs : List ℕ) → is_numeral b ≡ t → may_end (place_behind (next_place p b) bs) ≡ true → t ≡ true
numeral_if true b p bs e h = refl
numeral_if false b p bs e h =
    let q : next_place p b ≡ wrong = next_wrong p b (other_tests b e) in
    let r : may_end (place_behind (next_place p b) bs) ≡ false = ap (λ s. may_end (place_behind s bs)) q ∙ ap may_end (wrong_stays bs) in
    cc

ends_numeral : (p : Place) (bs : List ℕ) → may_end (place_behind p bs) ≡ true → all_numeral bs ≡ true
ends_numeral p [] h = refl
ends_numeral p (b ∷ bs) h = rw (numeral_if (is_numeral b) b p bs refl h) (ends_numeral (next_place p b) bs h)

pub number_numeral : (bs : List ℕ) → is_number bs ≡ true → all_numeral bs ≡ true
number_numeral bs h = ends_numeral start bs h
