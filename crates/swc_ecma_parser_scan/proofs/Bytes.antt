-- What two tests say of each byte, by computing, and the tests on ASCII.
use Rattle.std.proofs.Common.{◌≡◌, ℕ, zero, suc, ◌<◌, Bool, true, false, ◌&&◌, ◌||◌, ◌==◌, refl, ap, sym, arith, inl, inr}
use Rattle.std.specs.Bool.{beq}
use Rattle.std.specs.Char.{is_ascii_alphabetic, is_ascii_alphanumeric}
use Rattle.std.proofs.lemmas.Bool.{cases_eq, ne_eqb}
use Rattle.unicode_ident.specs.Ident.{is_xid_continue}
use Rattle.unicode_ident.proofs.IdentLemmas.{is_xid_start-ascii, is_xid_continue-ascii}
use Rattle.swc_ecma_parser_scan.specs.Chars.{is_space, is_line_break, is_name_start, is_name_part}

-- the two tests agree below n
unfoldable pub agree_below : (ℕ → Bool) → (ℕ → Bool) → ℕ → Bool
agree_below f g zero = true
agree_below f g (suc n) = beq (f n) (g n) && agree_below f g n

both_of : (x y rest : Bool) → (beq x y && rest) ≡ true → (x ≡ y) × (rest ≡ true)
both_of true true rest h = (refl, h)
both_of true false rest h = cc
both_of false true rest h = cc
both_of false false rest h = (refl, h)

pub agree_at : (f g : ℕ → Bool) (n : ℕ) → agree_below f g n ≡ true → (b : ℕ) → b < n → f b ≡ g b
unfolding agree_below
agree_at f g zero h b lt = absurd (omega arith)
agree_at f g (suc n) h b lt =
    let both = both_of (f n) (g n) (agree_below f g n) h in
    elim (cases_eq b n) [ inl same ↦ rw same both.0 | inr other ↦ agree_at f g n both.1 b (omega arith) ]

-- white space that is ASCII
abbrev pub is_plain_space : ℕ → Bool
is_plain_space c = (c == 9) || (c == 11) || (c == 12) || (c == 32)

pub is_space-ascii : (c : ℕ) → c < 128 → is_plain_space c ≡ is_space c
unfolding agree_below is_space
is_space-ascii c h = agree_at is_plain_space is_space 128 refl c h

name-part : (a b d v w : Bool) → b ≡ false → d ≡ false → v ≡ w → (a || b || d || v) ≡ (a || w)
name-part true false false v w e f g = refl
name-part false false false v w e f g = g
name-part a true d v w e f g = cc
name-part a false true v w e f g = cc

-- what may be in a name and is ASCII
abbrev pub is_plain_part : ℕ → Bool
is_plain_part c = (c == 36) || (is_ascii_alphanumeric c || (c == 95))

pub is_name_part-ascii : (c : ℕ) → c < 128 → is_plain_part c ≡ is_name_part c
unfolding is_name_part
is_name_part-ascii c h =
    sym (name-part (c == 36) (c == 0x200c) (c == 0x200d) (is_xid_continue c) (is_ascii_alphanumeric c || (c == 95))
    (ne_eqb c 0x200c (λ e. omega (arith, e, h))) (ne_eqb c 0x200d (λ e. omega (arith, e, h))) (is_xid_continue-ascii c h))

pub is_name_start-ascii : (c : ℕ) → c < 128 → ((c == 36) || (c == 95) || is_ascii_alphabetic c) ≡ is_name_start c
unfolding is_name_start
is_name_start-ascii c h = ap (λ x. (c == 36) || (c == 95) || x) (sym (is_xid_start-ascii c h))

pub is_line_break-ascii : (c : ℕ) → c < 128 → ((c == 10) || (c == 13)) ≡ is_line_break c
unfolding agree_below is_line_break
is_line_break-ascii c h = agree_at (λ k. (k == 10) || (k == 13)) is_line_break 128 refl c h
