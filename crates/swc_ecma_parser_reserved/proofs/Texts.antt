-- Each word that is reserved anywhere has the length and the first bytes of one; so what has not is none.
use Rattle.std.proofs.Common.{◌≡◌, inl, inr, Bool, true, false, ◌&&◌, ℕ, List, [], ◌∷◌, refl, ap, sym, ◌∙◌}
use Rattle.std.specs.Prelude.{codes}
use Rattle.std.specs.Str.{bytes_eq}
use Rattle.std.proofs.lemmas.Bool.{true≢false, and_parts, or_cases, cases_Bool}
use Rattle.std.proofs.lemmas.Slice.Eq.{bytes_eq-Decides}
use Rattle.swc_ecma_parser_grammar.specs.Names.{is_one_of, reserved_words, strict_words}
use Rattle.swc_ecma_parser_reserved.specs.Special.{of_e_and_three, of_t_and_three, of_c_and_four, of_p_and_six, of_two, of_three, of_four, of_five, of_six, of_seven, of_eight, of_nine, of_ten, of_length, is_special}

-- a test that holds for each word of a list
all_hold : (List ℕ → Bool) → List (List ℕ) → Bool
all_hold f [] = true
all_hold f (w ∷ ws) = f w && all_hold f ws

-- holds for what is one of them
holds : (f : List ℕ → Bool) (ws : List (List ℕ)) (text : List ℕ) → all_hold f ws ≡ true → is_one_of ws text ≡ true → f text ≡ true
unfolding all_hold
holds f [] text a h = cc
holds f (w ∷ ws) text a h =
    let p = and_parts (f w) (all_hold f ws) a in
    elim (or_cases (bytes_eq text w) (is_one_of ws text) h) [
      | inl e ↦ ap f ((bytes_eq-Decides text w).0 e) ∙ p.0
      | inr e ↦ holds f ws text p.1 e
    ]

reserved-special : all_hold is_special reserved_words ≡ true
unfolding all_hold is_special of_e_and_three of_t_and_three of_c_and_four of_p_and_six of_two of_three of_four of_five of_six of_seven of_eight of_nine of_ten of_length
reserved-special = refl

strict-special : all_hold is_special strict_words ≡ true
unfolding all_hold is_special of_e_and_three of_t_and_three of_c_and_four of_p_and_six of_two of_three of_four of_five of_six of_seven of_eight of_nine of_ten of_length
strict-special = refl

-- so what does not hold is none of them
none_of : (f : List ℕ → Bool) (ws : List (List ℕ)) (text : List ℕ) → all_hold f ws ≡ true → f text ≡ false → is_one_of ws text ≡ false
none_of f ws text a e =
    elim (cases_Bool (is_one_of ws text)) [
      | inl h ↦ absurd (true≢false (sym (holds f ws text a h) ∙ e))
      | inr h ↦ h
    ]

pub not-reserved : (text : List ℕ) → is_special text ≡ false → is_one_of reserved_words text ≡ false
not-reserved text e = none_of is_special reserved_words text reserved-special e

pub not-strict : (text : List ℕ) → is_special text ≡ false → is_one_of strict_words text ≡ false
not-strict text e = none_of is_special strict_words text strict-special e

pub no-text : (w text : List ℕ) → is_special w ≡ true → is_special text ≡ false → bytes_eq text w ≡ false
no-text w text s e =
    elim (cases_Bool (bytes_eq text w)) [
      | inl h ↦ absurd (true≢false (sym (ap is_special ((bytes_eq-Decides text w).0 h) ∙ s) ∙ e))
      | inr h ↦ h
    ]

pub yield-special : is_special (codes "yield") ≡ true
unfolding is_special of_e_and_three of_t_and_three of_c_and_four of_p_and_six of_two of_three of_four of_five of_six of_seven of_eight of_nine of_ten of_length
yield-special = refl

pub await-special : is_special (codes "await") ≡ true
unfolding is_special of_e_and_three of_t_and_three of_c_and_four of_p_and_six of_two of_three of_four of_five of_six of_seven of_eight of_nine of_ten of_length
await-special = refl
