-- A number is read back from its digits.
use Rattle.std.proofs.Common.{◌≡◌, ℕ, List, [], ◌∷◌, ◌++◌, ◌+◌, ◌-◌, ◌*◌, ◌<◌, ◌≤◌, ◌%◌, ◌/◌, ◌^◌, Bool, true, false, not, if◌then◌else◌, arith, refl, ap, ◌∙◌, append_assoc, decimal, length, take, zero, suc}
use Rattle.std.proofs.lemmas.Bool.Decides.{nat_tests}
use Rattle.std.proofs.lemmas.Fmt.{decimal_by_steps}
use Rattle.ecma_estree_text.specs.Places.{offset, unit_total}
use Rattle.ecma_estree_text.specs.Spots.{unit_count}
use Rattle.ecma_estree_nodes.specs.Reading.{is_digit, number, behind_number}

-- it begins with no digit
abbrev pub stops : List ℕ → Bool
stops [] = true
stops (b ∷ bs) = not (is_digit b)

-- digits say a number, whatever stands behind them
pub record Digits (n : ℕ) (ds : List ℕ) : Type 0 where
  pub value : (rest : List ℕ) → number 0 (ds ++ rest) ≡ number n rest
  pub rest : (rest : List ℕ) → behind_number (ds ++ rest) ≡ behind_number rest

is_digit_of : (d : ℕ) → d < 10 → is_digit (48 + d) ≡ true
is_digit_of d h = grind (arith, nat_tests)

next_number : (m d n : ℕ) (rest : List ℕ) → d < 10 → m * 10 + d ≡ n → number m ((48 + d) ∷ rest) ≡ number n rest
next_number m d n rest h e =
    let same : m * 10 + ((48 + d) - 48) ≡ n = omega (arith, e) in
    rw (is_digit_of d h) (ap (λ k. number k rest) same)

next_rest : (d : ℕ) (rest : List ℕ) → d < 10 → behind_number ((48 + d) ∷ rest) ≡ behind_number rest
next_rest d rest h = rw (is_digit_of d h) refl

one : (n : ℕ) → n < 10 → Digits n ((48 + n) ∷ [])
one n h = record { value = λ r. next_number 0 n n r h (omega arith); rest = λ r. next_rest n r h }

more : (n : ℕ) (ds : List ℕ) → 10 ≤ n → Digits (n / 10) ds → Digits n (ds ++ ((48 + n % 10) ∷ []))
more n ds h d = record {
  value = λ r. ap (number 0) (append_assoc ds ((48 + n % 10) ∷ []) r) ∙ d.value ((48 + n % 10) ∷ r) ∙ next_number (n / 10) (n % 10) n r (omega arith) (omega arith);
  rest = λ r. ap behind_number (append_assoc ds ((48 + n % 10) ∷ []) r) ∙ d.rest ((48 + n % 10) ∷ r) ∙ next_rest (n % 10) r (omega arith);
}

pub digits_of_decimal : (n : ℕ) → n < 2 ^ 64 → Digits n (decimal n)
digits_of_decimal n h = decimal_by_steps Digits one more n h

stopped_by : (t : Bool) (m n : ℕ) → not t ≡ true → (if t then m else n) ≡ n
stopped_by true m n h = cc
stopped_by false m n h = refl

pub number_stops : (n : ℕ) (rest : List ℕ) → stops rest ≡ true → number n rest ≡ n
number_stops n [] h = refl
number_stops n (b ∷ bs) h = stopped_by (is_digit b) (number (n * 10 + (b - 48)) bs) n h

-- offsets are numbers of 64 bits

count_small : (b : ℕ) → unit_count b ≤ 2
count_small b = grind (arith, nat_tests)

total_small : (bs : List ℕ) → unit_total bs ≤ 2 * length bs
total_small [] = omega arith
total_small (b ∷ bs) = let one = count_small b in let rest = total_small bs in omega arith

taken_small : (n : ℕ) (bs : List ℕ) → length (take n bs) ≤ length bs
taken_small zero bs = omega arith
taken_small (suc n) [] = omega arith
taken_small (suc n) (b ∷ bs) = let rest = taken_small n bs in omega arith

pub offset_small : (text : List ℕ) (n : ℕ) → length text < 2 ^ 63 → offset text n < 2 ^ 64
unfolding offset
offset_small text n h = let all = total_small (take n text) in let part = taken_small n text in omega arith
