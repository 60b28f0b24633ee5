-- A blank that is ASCII adds no token and no comment.
use Rattle.std.proofs.Common.{◌≡◌, inl, inr, ℕ, ◌+◌, ◌<◌, Bool, true, ◌||◌, ◌==◌, nat_eq, List, ◌∷◌, ◌++◌, length, get_or, drop, refl, ap, sym, ◌∙◌, subst, arith}
use Rattle.std.specs.Char.{encode_utf8}
use Rattle.std.specs.Str.{chars, IsUtf8}
use Rattle.std.proofs.lemmas.Bool.{or_cases, eqb-true}
use Rattle.std.proofs.lemmas.List.{drop_more}
use Rattle.std.proofs.lemmas.Str.{encode_ascii, chars_past_char, IsUtf8-past_char}
use Rattle.swc_ecma_parser_token.specs.declared.token.TokenAndSpan.{TokenAndSpan}
use Rattle.swc_ecma_parser_scan.specs.declared.state.State.TheVariants as state
use Rattle.swc_ecma_parser_scan.specs.Scan.{scan}
use Rattle.swc_ecma_parser_scan.proofs.Blanks.{alone, scan-32, scan-9, scan-10, scan-13}
use Rattle.swc_ecma_parser_lexer.specs.Blanks.{is_blank, is_break}
use Rattle.swc_ecma_parser_lexer.specs.Collected.{comments}
use Rattle.swc_ecma_parser_lexer.specs.Comments.{comment_of}
use Rattle.swc_ecma_parser_lexer.specs.Tokens.{is_skipped, breaks, IsBlind}
use Rattle.swc_ecma_parser_lexer.proofs.Collections as collections
use Rattle.swc_ecma_parser_lexer.proofs.Texts as texts

-- the four blanks
by-blank : (P : ℕ → Type 0) → P 32 → P 10 → P 9 → P 13 → (c : ℕ) → is_blank c ≡ true → P c
unfolding is_blank
by-blank P space feed tab return c e =
    elim (or_cases ((c == 32) || (c == 10) || (c == 9)) (c == 13) e) [
      | inr h ↦ subst P (sym (eqb-true c 13 h)) return
      | inl f ↦ elim (or_cases ((c == 32) || (c == 10)) (c == 9) f) [
        | inr h ↦ subst P (sym (eqb-true c 9 h)) tab
        | inl g ↦ elim (or_cases (c == 32) (c == 10) g) [
          | inl h ↦ subst P (sym (eqb-true c 32 h)) space
          | inr h ↦ subst P (sym (eqb-true c 10 h)) feed
        ]
      ]
    ]

pub blind-blank : (f : ℕ → Bool → List ℕ → List TokenAndSpan) → IsBlind f → (at : ℕ) (b : Bool) (c : ℕ) (cs : List ℕ) → is_blank c ≡ true → f at b (c ∷ cs) ≡ f (at + 1) (b || is_break c) cs
unfolding is_break is_skipped breaks
blind-blank f h at b c cs e =
    by-blank (λ k. f at b (k ∷ cs) ≡ f (at + 1) (b || is_break k) cs)
    (texts.past-one f h at b 32 cs state.Space (omega arith) (scan-32 (nat_eq at 0) cs) refl)
    (texts.past-one f h at b 10 cs state.LineBreak (omega arith) (scan-10 (nat_eq at 0) cs) refl)
    (texts.past-one f h at b 9 cs state.Space (omega arith) (scan-9 (nat_eq at 0) cs) refl)
    (texts.past-one f h at b 13 cs state.LineBreak (omega arith) (scan-13 (nat_eq at 0) cs) refl)
    c e

comments-space : (start at c : ℕ) (cs : List ℕ) → c < 128 → scan (nat_eq at 0) c cs ≡ alone state.Space cs → comments start at (c ∷ cs) ≡ comments start (at + 1) cs
unfolding comment_of
comments-space start at c cs lt e = collections.past-one start at c cs state.Space lt e (λ low text. refl)

comments-break : (start at c : ℕ) (cs : List ℕ) → c < 128 → scan (nat_eq at 0) c cs ≡ alone state.LineBreak cs → comments start at (c ∷ cs) ≡ comments start (at + 1) cs
unfolding comment_of
comments-break start at c cs lt e = collections.past-one start at c cs state.LineBreak lt e (λ low text. refl)

pub comments-blank : (start at c : ℕ) (cs : List ℕ) → is_blank c ≡ true → comments start at (c ∷ cs) ≡ comments start (at + 1) cs
comments-blank start at c cs e =
    by-blank (λ k. comments start at (k ∷ cs) ≡ comments start (at + 1) cs)
    (comments-space start at 32 cs (omega arith) (scan-32 (nat_eq at 0) cs))
    (comments-break start at 10 cs (omega arith) (scan-10 (nat_eq at 0) cs))
    (comments-space start at 9 cs (omega arith) (scan-9 (nat_eq at 0) cs))
    (comments-break start at 13 cs (omega arith) (scan-13 (nat_eq at 0) cs))
    c e

blank-ascii : (c : ℕ) → is_blank c ≡ true → c < 128
blank-ascii c e = by-blank (λ k. k < 128) (omega arith) (omega arith) (omega arith) (omega arith) c e

-- the text behind a blank
pub over-blank : (text : List ℕ) (at : ℕ) → IsUtf8 (drop at text) → at < length text → is_blank (get_or text at 0) ≡ true → IsUtf8 (drop (at + 1) text) × (chars (drop at text) ≡ get_or text at 0 ∷ chars (drop (at + 1) text))
over-blank text at u h e =
    let b = get_or text at 0 in
    let cut : drop at text ≡ encode_utf8 b ++ drop (at + 1) text = drop_more text at 0 h ∙ ap (λ xs. xs ++ drop (at + 1) text) (sym (encode_ascii b (blank-ascii b e))) in
    (IsUtf8-past_char (drop at text) (drop (at + 1) text) b u cut, chars_past_char (drop at text) (drop (at + 1) text) b u cut)
