-- What a literal says that has no further quote and no backslash.
use Rattle.std.proofs.Common.{◌≡◌, inl, inr, ℕ, ◌<◌, Bool, true, false, ◌&&◌, ◌||◌, ◌==◌, nat_le, nat_lt, cond, List, [], ◌∷◌, ◌++◌, Some, None, refl, ap, sym, ◌∙◌, subst, arith}
use Rattle.std.specs.Char.{encode_utf8}
use Rattle.std.specs.Str.{chars, IsUtf8, encode_utf8_all}
use lib.Utf8.{scalar, scalars, scalar_cases}
use Rattle.std.proofs.lemmas.Bool.{true≢false, and_parts, and_from, and_left, and_right, or_parts, or_from, or_left, or_right, eq-eqb, ne_eqb, le-leb, lt-leb, lt-ltb}
use Rattle.std.proofs.lemmas.Str.{encode_ascii, chars_past_char, chars-append, chars-IsAscii, chars_from_encodes}
use Rattle.std.proofs.lemmas.Str.Ascii.{IsAscii-nil, IsAscii-cons}
use Rattle.swc_ecma_parser_lexer.specs.declared.escape.Escape.TheVariants as escape
use Rattle.swc_ecma_parser_lexer.specs.Plain.{is_plain}
use Rattle.swc_ecma_parser_lexer.specs.Strings.{is_well_escaped, value_of, escaped, in_text, silent, says, Said, said, said_alone, said_last, is_high, lossy, is_right}
use Rattle.swc_ecma_parser_lexer.proofs.Literals.{is_well_escaped-past, is_well_escaped-end, value_of-past, value_of-end}

tail-of : (t r : Bool) → cond t false r ≡ true → (t ≡ false) × (r ≡ true)
tail-of true r e = absurd (true≢false (sym e))
tail-of false r e = (refl, e)

plain-append : (q : ℕ) (xs ys : List ℕ) → is_plain q (xs ++ ys) ≡ true → is_plain q ys ≡ true
unfolding is_plain
plain-append q [] ys h = h
plain-append q (x ∷ xs) ys h = plain-append q xs ys (tail-of ((x == q) || (x == 92)) (is_plain q (xs ++ ys)) h).1

plain-first : (q c : ℕ) (rest : List ℕ) → c < 128 → is_plain q (encode_utf8 c ++ rest) ≡ true → ((c == q) ≡ false) × ((c == 92) ≡ false)
unfolding is_plain
plain-first q c rest lt h =
    let k : is_plain q (c ∷ rest) ≡ true = ap (λ xs. is_plain q (xs ++ rest)) (sym (encode_ascii c lt)) ∙ h in
    or_parts (c == q) (c == 92) (tail-of ((c == q) || (c == 92)) (is_plain q rest) k).0

apart : (q c k : ℕ) (rest : List ℕ) → k < 128 → ((k == q) || (k == 92)) ≡ true → is_plain q (encode_utf8 c ++ rest) ≡ true → (c == k) ≡ false
apart q c k rest lt t h =
    ne_eqb c k (λ e.
    let p = plain-first q k rest lt (subst (λ x. is_plain q (encode_utf8 x ++ rest) ≡ true) e h) in
    true≢false (sym t ∙ or_from (k == q) (k == 92) p.0 p.1))

not-high : (c : ℕ) → scalar c ≡ true → is_high c ≡ false
unfolding is_high
not-high c s =
    elim (scalar_cases c s) [
      | inl h ↦ and_left (nat_le 0xd800 c) (nat_le c 0xdbff) (lt-leb 0xd800 c h)
      | inr h ↦ and_right (nat_le 0xd800 c) (nat_le c 0xdbff) (lt-leb c 0xdbff (omega (arith, h.0)))
    ]

not-lossy : (c : ℕ) → scalar c ≡ true → lossy c ≡ c
unfolding lossy
not-lossy c s =
    let kept : (nat_lt c 0xd800 || (nat_le 0xe000 c && nat_le c 0x10ffff)) ≡ true =
    elim (scalar_cases c s) [
      | inl h ↦ or_left _ _ (lt-ltb c 0xd800 h)
      | inr h ↦ or_right (nat_lt c 0xd800) _ (and_from _ _ (le-leb 0xe000 c h.0) (le-leb c 0x10ffff (omega (arith, h.1))))
    ] in
    ap (λ x. cond x c 0xfffd) kept

alone : (c : ℕ) → scalar c ≡ true → said_alone c ≡ record { bytes = encode_utf8 c; waiting = None }
unfolding said_alone
alone c s =
    ap (λ (x : Bool). cond x (record { bytes = []; waiting = Some c }) (record { bytes = encode_utf8 (lossy c); waiting = None })) (not-high c s)
    ∙ ap (λ k. record { bytes = encode_utf8 k; waiting = None }) (not-lossy c s)

turn : (q c : ℕ) → (c == q) ≡ false → (c == 92) ≡ false → escaped q escape.Text c ≡ says c
unfolding escaped in_text
turn q c f g =
    ap (λ x. cond x (silent escape.Text) (cond (c == 92) (silent escape.Backslash) (says c))) f
    ∙ ap (λ x. cond x (silent escape.Backslash) (says c)) g

turn-quote : (q : ℕ) → escaped q escape.Text q ≡ silent escape.Text
unfolding escaped in_text
turn-quote q = ap (λ x. cond x (silent escape.Text) (cond (q == 92) (silent escape.Backslash) (says q))) (eq-eqb q q refl)

value-char : (q c : ℕ) (cs : List ℕ) → (c == q) ≡ false → (c == 92) ≡ false → scalar c ≡ true → value_of q escape.Text None (c ∷ cs) ≡ encode_utf8 c ++ value_of q escape.Text None cs
unfolding said says
value-char q c cs f g s =
    value_of-past q escape.Text None (c ∷ cs) c cs (says c) refl (sym (turn q c f g))
    ∙ ap (λ (x : Said). x.bytes ++ value_of q escape.Text x.waiting cs) (alone c s)

value-quote : (q : ℕ) (cs : List ℕ) → value_of q escape.Text None (q ∷ cs) ≡ value_of q escape.Text None cs
unfolding said silent
value-quote q cs = value_of-past q escape.Text None (q ∷ cs) q cs (silent escape.Text) refl (sym (turn-quote q))

well-char : (q c : ℕ) (cs : List ℕ) → (c == q) ≡ false → (c == 92) ≡ false → is_well_escaped q escape.Text (c ∷ cs) ≡ is_well_escaped q escape.Text cs
unfolding says
well-char q c cs f g = is_well_escaped-past q escape.Text (c ∷ cs) c cs (says c) refl (sym (turn q c f g))

well-quote : (q : ℕ) (cs : List ℕ) → is_well_escaped q escape.Text (q ∷ cs) ≡ is_well_escaped q escape.Text cs
unfolding silent
well-quote q cs = is_well_escaped-past q escape.Text (q ∷ cs) q cs (silent escape.Text) refl (sym (turn-quote q))

own-mark : (q : ℕ) → ((q == q) || (q == 92)) ≡ true
own-mark q = or_left (q == q) (q == 92) (eq-eqb q q refl)

backslash : (q : ℕ) → ((92 == q) || (92 == 92)) ≡ true
backslash q = or_right (92 == q) (92 == 92) refl

inner-value : (q : ℕ) (cs : List ℕ) → q < 128 → scalars cs ≡ true → is_plain q (encode_utf8_all cs) ≡ true → value_of q escape.Text None (cs ++ q ∷ []) ≡ encode_utf8_all cs
unfolding said_last
inner-value q [] lt s p = value-quote q [] ∙ value_of-end q escape.Text None [] refl
inner-value q (c ∷ cs) lt s p =
    let k = and_parts (scalar c) (scalars cs) s in
    value-char q c (cs ++ q ∷ []) (apart q c q (encode_utf8_all cs) lt (own-mark q) p) (apart q c 92 (encode_utf8_all cs) (omega arith) (backslash q) p) k.0
    ∙ ap (λ xs. encode_utf8 c ++ xs) (inner-value q cs lt k.1 (plain-append q (encode_utf8 c) (encode_utf8_all cs) p))

inner-well : (q : ℕ) (cs : List ℕ) → q < 128 → is_plain q (encode_utf8_all cs) ≡ true → is_well_escaped q escape.Text (cs ++ q ∷ []) ≡ true
unfolding is_right
inner-well q [] lt p = well-quote q [] ∙ is_well_escaped-end q escape.Text [] refl
inner-well q (c ∷ cs) lt p =
    well-char q c (cs ++ q ∷ []) (apart q c q (encode_utf8_all cs) lt (own-mark q) p) (apart q c 92 (encode_utf8_all cs) (omega arith) (backslash q) p)
    ∙ inner-well q cs lt (plain-append q (encode_utf8 c) (encode_utf8_all cs) p)

-- a text between two marks, by its characters
between-chars : (q : ℕ) (literal inner : List ℕ) → q < 128 → IsUtf8 literal → IsUtf8 inner → literal ≡ q ∷ (inner ++ q ∷ []) → chars literal ≡ q ∷ (chars inner ++ q ∷ [])
between-chars q literal inner lt u v e =
    let cut : literal ≡ encode_utf8 q ++ (inner ++ q ∷ []) = e ∙ ap (λ xs. xs ++ (inner ++ q ∷ [])) (sym (encode_ascii q lt)) in
    chars_past_char literal (inner ++ q ∷ []) q u cut
    ∙ ap (λ xs. q ∷ xs) (chars-append inner (q ∷ []) v ∙ ap (λ xs. chars inner ++ xs) (chars-IsAscii (q ∷ []) (IsAscii-cons q [] lt IsAscii-nil)))

pub plain-value : (q : ℕ) (literal inner : List ℕ) → q < 128 → IsUtf8 literal → IsUtf8 inner → literal ≡ q ∷ (inner ++ q ∷ []) → is_plain q inner ≡ true → value_of q escape.Text None (chars literal) ≡ inner
plain-value q literal inner lt u v e p =
    let same = chars_from_encodes v.0 inner v v.1.1 in
    ap (value_of q escape.Text None) (between-chars q literal inner lt u v e) ∙ value-quote q (chars inner ++ q ∷ [])
    ∙ ap (λ cs. value_of q escape.Text None (cs ++ q ∷ [])) (sym same)
    ∙ inner-value q v.0 lt v.1.0 (ap (is_plain q) v.1.1 ∙ p) ∙ v.1.1

pub plain-well : (q : ℕ) (literal inner : List ℕ) → q < 128 → IsUtf8 literal → IsUtf8 inner → literal ≡ q ∷ (inner ++ q ∷ []) → is_plain q inner ≡ true → is_well_escaped q escape.Text (chars literal) ≡ true
plain-well q literal inner lt u v e p =
    let same = chars_from_encodes v.0 inner v v.1.1 in
    ap (is_well_escaped q escape.Text) (between-chars q literal inner lt u v e) ∙ well-quote q (chars inner ++ q ∷ [])
    ∙ ap (λ cs. is_well_escaped q escape.Text (cs ++ q ∷ [])) (sym same)
    ∙ inner-well q v.0 lt (ap (is_plain q) v.1.1 ∙ p)
