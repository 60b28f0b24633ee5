-- A loop over all characters of a text.
use Rattle.std.proofs.Common.{◌≡◌, ◌∙◌, ℕ, List, [], ◌∷◌, ap, map, refl, sym}

map_same : (xs : List ℕ) → map (λ x. x) xs ≡ xs
map_same [] = refl
map_same (x ∷ xs) = ap (λ ys. x ∷ ys) (map_same xs)

-- all characters are read
pub all_read : (xs ys : List ℕ) → map (λ x. x) xs ≡ ys → xs ≡ ys
all_read xs ys h = sym (map_same xs) ∙ h
