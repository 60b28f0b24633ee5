-- What the characters of a literal say, one character at a time.
use Rattle.std.proofs.Common.{◌≡◌, ℕ, List, [], ◌∷◌, ◌++◌, ◌+◌, ◌≤◌, ◌<◌, Option, Some, None, refl, ap, sym, ◌∙◌, append_assoc, get_or, drop, length}
use Rattle.std.proofs.lemmas.List.{at_drop_more, at_drop_all}
use Rattle.ecma_estree_text.specs.Strings.{also_said, escape_behind, last_text, points_behind, points_text, said, text_with, waiting_with}
use Rattle.ecma_estree_text.specs.declared.strings.Escape.{Escape}

-- the points from one character on
points_step : (quote : ℕ) (s : Escape) (cs : List ℕ) (n c : ℕ) → (n < length cs) × (c ≡ get_or cs n c)
    → points_behind quote s (drop n cs) ≡ also_said (said quote s c) (points_behind quote (escape_behind s c) (drop (n + 1) cs))
points_step quote s cs n c h =
    at_drop_more (points_behind quote s) cs n c h.0
    ∙ ap (λ x. also_said (said quote s x) (points_behind quote (escape_behind s x) (drop (n + 1) cs))) (sym h.1)

written : (waiting point : Option ℕ) (rest : List ℕ) → points_text waiting (also_said point rest) ≡ text_with waiting point ++ points_text (waiting_with waiting point) rest
written waiting None rest = refl
written waiting (Some c) rest = refl

-- what is written with one character more
pub points_more : (whole out next : List ℕ) (quote : ℕ) (s t : Escape) (w v point : Option ℕ) (cs : List ℕ) (n c m : ℕ)
    → out ++ points_text w (points_behind quote s (drop n cs)) ≡ whole → (n < length cs) × (c ≡ get_or cs n c)
    → point ≡ said quote s c → v ≡ waiting_with w point → next ≡ out ++ text_with w point → t ≡ escape_behind s c → m ≡ n + 1
    → next ++ points_text v (points_behind quote t (drop m cs)) ≡ whole
points_more whole out next quote s t w v point cs n c m h a e f g k i =
    let tail = points_behind quote (escape_behind s c) (drop (n + 1) cs) in
    let step : points_text w (points_behind quote s (drop n cs)) ≡ text_with w point ++ points_text (waiting_with w point) tail =
    ap (points_text w) (points_step quote s cs n c a ∙ ap (λ x. also_said x tail) (sym e)) ∙ written w point tail in
    rw (f, g, k, i) (append_assoc out (text_with w point) (points_text (waiting_with w point) tail) ∙ ap (λ xs. out ++ xs) (sym step) ∙ h)

-- what is written at the end
pub points_all : (whole out : List ℕ) (quote : ℕ) (s : Escape) (w : Option ℕ) (cs : List ℕ) (n : ℕ)
    → out ++ points_text w (points_behind quote s (drop n cs)) ≡ whole → length cs ≤ n → out ++ last_text w ≡ whole
points_all whole out quote s w cs n h l = sym (at_drop_all (λ xs. out ++ points_text w (points_behind quote s xs)) cs n l) ∙ h
