-- The bytes of a class leave a piece as it is.
use Rattle.std.proofs.Common.{◌≡◌, inl, inr, ℕ, ◌+◌, ◌<◌, Bool, true, false, not, ◌&&◌, ◌||◌, ◌==◌, cond, nat_lt, List, ◌++◌, length, get_or, drop, Some, None, refl, ap, sym, ◌∙◌}
use Rattle.std.specs.Int.Bits.{bit_and}
use Rattle.std.specs.Char.{encode_utf8}
use Rattle.std.specs.Str.{chars, IsUtf8}
use Rattle.std.proofs.lemmas.Bool.{and_parts, or_cases, eqb-true, ltb-true, not-true, cases_lt}
use Rattle.std.proofs.lemmas.List.{drop_more, get_or_past}
use Rattle.std.proofs.lemmas.Str.{encode_ascii, chars_past_char, IsUtf8-past_char}
use Rattle.swc_ecma_parser_scan.specs.declared.run.TheConstants.{CLASSES}
use Rattle.swc_ecma_parser_scan.specs.declared.state.State.{State}
use Rattle.swc_ecma_parser_scan.specs.declared.state.State.TheVariants as state
use Rattle.swc_ecma_parser_scan.specs.Chars.{is_line_break}
use Rattle.swc_ecma_parser_scan.specs.Step.{step, step_line, step_name, step_block, step_str}
use Rattle.swc_ecma_parser_scan.specs.Scan.{Munched, munch}
use Rattle.swc_ecma_parser_scan.specs.Runs.{class_of, is_of}
use Rattle.swc_ecma_parser_scan.proofs.Bytes.{agree_below, agree_at, is_plain_part, is_name_part-ascii, is_line_break-ascii}
use Rattle.swc_ecma_parser_scan.proofs.Scans.{munch-past}

abbrev is_line : ℕ → Bool
is_line b = not (b == 10) && not (b == 13)

of-names : (b : ℕ) → b < 256 → is_of 1 b ≡ (nat_lt b 128 && is_plain_part b)
unfolding agree_below is_of
of-names b h = agree_at (is_of 1) (λ k. nat_lt k 128 && is_plain_part k) 256 refl b h

of-strings : (b : ℕ) → b < 256 → is_of 2 b ≡ (nat_lt b 128 && (not (b == 34) && (not (b == 39) && (not (b == 92) && is_line b))))
unfolding agree_below is_of
of-strings b h = agree_at (is_of 2) (λ k. nat_lt k 128 && (not (k == 34) && (not (k == 39) && (not (k == 92) && is_line k)))) 256 refl b h

of-lines : (b : ℕ) → b < 256 → is_of 4 b ≡ (nat_lt b 128 && is_line b)
unfolding agree_below is_of
of-lines b h = agree_at (is_of 4) (λ k. nat_lt k 128 && is_line k) 256 refl b h

of-blocks : (b : ℕ) → b < 256 → is_of 8 b ≡ (nat_lt b 128 && (not (b == 42) && is_line b))
unfolding agree_below is_of
of-blocks b h = agree_at (is_of 8) (λ k. nat_lt k 128 && (not (k == 42) && is_line k)) 256 refl b h

of-none : (b : ℕ) → b < 256 → is_of 0 b ≡ false
unfolding agree_below is_of
of-none b h = agree_at (is_of 0) (λ _. false) 256 refl b h

of-bytes : (class b : ℕ) → is_of class b ≡ true → b < 256
unfolding is_of
of-bytes class b e =
    elim (cases_lt b 256) [
      | inl h ↦ h
      | inr h ↦
          let past : is_of class b ≡ false = ap (λ x. not (bit_and x class == 0)) (get_or_past CLASSES b 0 h) in
          absurd (cc)
    ]

-- a byte leaves a state as it is
abbrev Stays : State → ℕ → Type 0
Stays s b = (b < 128) × (step s b ≡ Some s)

no-break : (b : ℕ) → b < 128 → is_line b ≡ true → is_line_break b ≡ false
no-break b h e =
    let p = and_parts _ _ e in
    sym (is_line_break-ascii b h) ∙ ap (λ x. x || (b == 13)) (not-true _ p.0) ∙ not-true _ p.1

stays-none : (s : State) (b : ℕ) → is_of 0 b ≡ true → Stays s b
stays-none s b e =
    let f = of-none b (of-bytes 0 b e) in
    absurd (cc)

stays-line : (s : State) (b : ℕ) → is_of 4 b ≡ true → (b < 128) × (step_line s b ≡ Some s)
unfolding step_line
stays-line s b e =
    let p = and_parts _ _ (sym (of-lines b (of-bytes 4 b e)) ∙ e) in
    let lt = ltb-true b 128 p.0 in
    (lt, ap (λ x. cond x None (Some s)) (no-break b lt p.1))

stays-name : (b : ℕ) → is_of 1 b ≡ true → (b < 128) × (step_name b ≡ Some state.Name)
unfolding step_name
stays-name b e =
    let p = and_parts _ _ (sym (of-names b (of-bytes 1 b e)) ∙ e) in
    let lt = ltb-true b 128 p.0 in
    (lt, ap (λ x. cond x (Some state.Name) None) (sym (is_name_part-ascii b lt) ∙ p.1))

or-false : (x y : Bool) → y ≡ false → (x || y) ≡ x
or-false true y e = refl
or-false false y e = e

stays-block : (breaks : Bool) (b : ℕ) → is_of 8 b ≡ true → (b < 128) × (step_block breaks b ≡ state.BlockComment breaks)
unfolding step_block
stays-block breaks b e =
    let p = and_parts _ _ (sym (of-blocks b (of-bytes 8 b e)) ∙ e) in
    let q = and_parts _ _ p.1 in
    let lt = ltb-true b 128 p.0 in (
      lt,
      ap (λ x. cond x (state.BlockCommentStar breaks) (state.BlockComment (breaks || is_line_break b))) (not-true _ q.0)
          ∙ ap (λ x. state.BlockComment x) (or-false breaks (is_line_break b) (no-break b lt q.1)),
    )

other-quote : (quote b : ℕ) → ((quote == 39) || (quote == 34)) ≡ true → (b == 34) ≡ false → (b == 39) ≡ false → (b == quote) ≡ false
other-quote quote b e f g =
    elim (or_cases _ _ e) [
      | inl h ↦ ap (λ k. b == k) (eqb-true quote 39 h) ∙ g
      | inr h ↦ ap (λ k. b == k) (eqb-true quote 34 h) ∙ f
    ]

stays-quoted : (quote b : ℕ) → ((quote == 39) || (quote == 34)) ≡ true → is_of 2 b ≡ true → (b < 128) × (step_str quote b ≡ Some (state.Str quote))
unfolding step_str
stays-quoted quote b k e =
    let p = and_parts _ _ (sym (of-strings b (of-bytes 2 b e)) ∙ e) in
    let q = and_parts _ _ p.1 in
    let r = and_parts _ _ q.1 in
    let t = and_parts _ _ r.1 in
    let u = and_parts _ _ t.1 in
    let ended = Some (state.StrEnd quote) in
    let escape = Some (state.StrEscape quote) in (
      ltb-true b 128 p.0,
      ap (λ x. cond x ended (cond (b == 92) escape (cond ((b == 10) || (b == 13)) None (Some (state.Str quote))))) (other-quote quote b k (not-true _ q.0) (not-true _ r.0))
          ∙ ap (λ x. cond x escape (cond ((b == 10) || (b == 13)) None (Some (state.Str quote)))) (not-true _ t.0)
          ∙ ap (λ x. cond (x || (b == 13)) None (Some (state.Str quote))) (not-true _ u.0)
          ∙ ap (λ x. cond x None (Some (state.Str quote))) (not-true _ u.1),
    )

stays-string : (quote b : ℕ) (v : Bool) → ((quote == 39) || (quote == 34)) ≡ v → is_of (cond v 2 0) b ≡ true → (b < 128) × (step_str quote b ≡ Some (state.Str quote))
unfolding step
stays-string quote b true k e = stays-quoted quote b k e
stays-string quote b false k e = stays-none (state.Str quote) b e

-- the bytes of its class leave a state as it is
pub stays : (s : State) (b : ℕ) → is_of (class_of s) b ≡ true → Stays s b
unfolding step class_of
stays state.Name b e = stays-name b e
stays (state.Str quote) b e = stays-string quote b ((quote == 39) || (quote == 34)) refl e
stays state.LineComment b e = stays-line state.LineComment b e
stays state.Shebang b e = stays-line state.Shebang b e
stays (state.BlockComment breaks) b e =
    let p = stays-block breaks b e in
    (p.0, ap (λ x. Some x) p.1)
stays s b e = stays-none s b e

-- one byte further
pub record IsOver (s : State) (text : List ℕ) (at : ℕ) : Type 0 where
  pub utf8 : IsUtf8 (drop (at + 1) text)
  pub state : (munch s (chars (drop at text))).state ≡ (munch s (chars (drop (at + 1) text))).state
  pub left : (munch s (chars (drop at text))).left ≡ (munch s (chars (drop (at + 1) text))).left

pub over : (s : State) (text : List ℕ) (at : ℕ) → IsUtf8 (drop at text) → at < length text → is_of (class_of s) (get_or text at 0) ≡ true → IsOver s text at
over s text at u h e =
    let b = get_or text at 0 in
    let st = stays s b e in
    let cut : drop at text ≡ encode_utf8 b ++ drop (at + 1) text = drop_more text at 0 h ∙ ap (λ xs. xs ++ drop (at + 1) text) (sym (encode_ascii b st.0)) in
    let begins = chars_past_char (drop at text) (drop (at + 1) text) b u cut in
    let m = munch-past s s b (chars (drop at text)) (chars (drop (at + 1) text)) begins (sym st.1) in
    record {
      utf8 = IsUtf8-past_char (drop at text) (drop (at + 1) text) b u cut;
      state = ap (λ (m : Munched). m.state) m;
      left = ap (λ (m : Munched). m.left) m;
    }
