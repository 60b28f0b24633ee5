-- What is shown holds no character that a terminal might take for an order.
use Rattle.std.proofs.Common.{◌≡◌, ℕ, List, [], ◌∷◌, ◌++◌, ◌==◌, ◌&&◌, Bool, true, false, not, cond, nat_eq, refl, ap, map, chars, encode_utf8, encode_utf8_all, flat_map}
use Rattle.std.specs.Str.{NonePass, NoCharPasses}
use Rattle.ecma_faults.specs.Shown.{is_hidden, shown, shown_bytes, shown_text, name_text}

-- an order: what is hidden, but a tab where tabs are shown
abbrev pub is_order : (tab : ℕ) → ℕ → Bool
is_order tab c = is_hidden c && not (c == tab)

chosen : (tab c : ℕ) (b : Bool) → is_hidden c ≡ b → is_order tab 0xFFFD ≡ false → is_order tab (cond b 0xFFFD c) ≡ false
chosen tab c true e h = h
chosen tab c false e h = ap (λ b. b && not (c == tab)) e

no_order : (tab c : ℕ) → is_order tab tab ≡ false → is_order tab 0xFFFD ≡ false → is_order tab (shown tab c) ≡ false
no_order tab c t h =
    elim (nat_eq c 9) as (λ b. is_order tab (cond b tab (cond (is_hidden c) 0xFFFD c)) ≡ false) [ true ↦ t | false ↦ chosen tab c (is_hidden c) refl h ]

spelled : (tab : ℕ) (cs : List ℕ) → encode_utf8_all (map (shown tab) cs) ≡ flat_map (shown_bytes tab) cs
spelled tab [] = refl
spelled tab (c ∷ cs) = ap (λ bs. encode_utf8 (shown tab c) ++ bs) (spelled tab cs)

none : (tab : ℕ) (cs : List ℕ) → is_order tab tab ≡ false → is_order tab 0xFFFD ≡ false → NonePass (is_order tab) (map (shown tab) cs)
none tab [] t h = tt
none tab (c ∷ cs) t h = (no_order tab c t h, none tab cs t h)

pub line_is_safe : (text : List ℕ) → NoCharPasses (is_order 9) (shown_text 9 text)
unfolding shown_text
line_is_safe text = (map (shown 9) (chars text), spelled 9 (chars text), none 9 (chars text) refl refl)

pub name_is_safe : (text : List ℕ) → NoCharPasses (is_order 0xFFFD) (name_text text)
unfolding shown_text
name_is_safe text = (map (shown 0xFFFD) (chars text), spelled 0xFFFD (chars text), none 0xFFFD (chars text) refl refl)
