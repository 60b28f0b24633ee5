-- What the places of a stack come to.
use Rattle.std.proofs.Common.{◌≡◌, ℕ, zero, suc, ◌+◌, ◌-◌, ◌<◌, ◌≤◌, true, false, cond, List, [], ◌∷◌, length, get_or, set, refl, ap, sym, ◌∙◌, arith}
use Rattle.std.proofs.lemmas.List.{get_or-set_same, get_or-set_other}
use Rattle.swc_ecma_parser_nesting.specs.declared.stack.Open.{Open}
use Rattle.swc_ecma_parser_nesting.specs.declared.stack.Open.TheVariants as opened
use Rattle.swc_ecma_parser_nesting.specs.Stacked.{stacked, top_of, below_top, is_question, past_questions}

-- a place above is of no matter
stacked-set : (places : List Open) (n m : ℕ) (o : Open) → n ≤ m → stacked (set places m o) n ≡ stacked places n
unfolding stacked
stacked-set places zero m o h = refl
stacked-set places (suc n) m o h =
    ap (λ x. x ∷ stacked (set places m o) n) (get_or-set_other places m n o opened.Nothing (omega (arith, h)))
    ∙ ap (λ xs. get_or places n opened.Nothing ∷ xs) (stacked-set places n m o (omega (arith, h)))

pub pushed : (places : List Open) (n : ℕ) (o : Open) → n < length places → stacked (set places n o) (n + 1) ≡ o ∷ stacked places n
unfolding stacked
pushed places n o h =
    let e : n + 1 ≡ suc n = omega arith in
    ap (stacked (set places n o)) e
    ∙ ap (λ x. x ∷ stacked (set places n o) n) (get_or-set_same places n o opened.Nothing h)
    ∙ ap (λ xs. o ∷ xs) (stacked-set places n n o (omega arith))

pub length-stacked : (places : List Open) (n : ℕ) → length (stacked places n) ≡ n
unfolding stacked
length-stacked places zero = refl
length-stacked places (suc n) = ap suc (length-stacked places n)

pub none : (places : List Open) → stacked places 0 ≡ []
unfolding stacked
none places = refl

pub top-stacked : (places : List Open) (n : ℕ) → 0 < n → get_or places (n - 1) opened.Nothing ≡ top_of (stacked places n)
unfolding stacked
top-stacked places zero h = absurd (omega (arith, h))
top-stacked places (suc n) h =
    let e : suc n - 1 ≡ n = omega arith in
    ap (λ k. get_or places k opened.Nothing) e

pub below-stacked : (places : List Open) (n : ℕ) → stacked places (n - 1) ≡ below_top (stacked places n)
unfolding stacked
below-stacked places zero = refl
below-stacked places (suc n) =
    let e : suc n - 1 ≡ n = omega arith in
    ap (stacked places) e

-- `?` on top goes
pub past_questions-one : (os : List Open) → is_question (top_of os) ≡ true → past_questions os ≡ past_questions (below_top os)
unfolding past_questions
past_questions-one [] h = refl
past_questions-one (o ∷ os) h = ap (λ v. cond v (past_questions os) (o ∷ os)) h

-- anything else stays
pub past_questions-stop : (os : List Open) → is_question (top_of os) ≡ false → past_questions os ≡ os
unfolding past_questions
past_questions-stop [] h = refl
past_questions-stop (o ∷ os) h = ap (λ v. cond v (past_questions os) (o ∷ os)) h

pub past_questions-none : past_questions [] ≡ []
unfolding past_questions
past_questions-none = refl
