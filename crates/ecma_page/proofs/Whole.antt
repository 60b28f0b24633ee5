-- What is read of a block up to the next `<` is the whole of it.
use Rattle.std.proofs.Common.{◌≡◌, ℕ, Bool, true, false, List, [], ◌∷◌, ◌++◌, refl, ap, ◌∙◌, codes, nat_eq, cond, flat_map}
use Rattle.ecma_page.specs.Page.{escaped, safe, up_to_tag}

one_more : (b : ℕ) (json rest : List ℕ) (is_open : Bool) → nat_eq b 60 ≡ is_open → up_to_tag (json ++ 60 ∷ rest) ≡ json
    → up_to_tag ((cond is_open (codes "\\u003c") (b ∷ []) ++ json) ++ 60 ∷ rest) ≡ cond is_open (codes "\\u003c") (b ∷ []) ++ json
one_more b json rest true e h = ap (λ t. codes "\\u003c" ++ t) h
one_more b json rest false e h = ap (λ t. cond t [] (b ∷ up_to_tag (json ++ 60 ∷ rest))) e ∙ ap (λ t. b ∷ t) h

read : (json rest : List ℕ) → up_to_tag (flat_map escaped json ++ 60 ∷ rest) ≡ flat_map escaped json
read [] rest = refl
read (b ∷ bs) rest = one_more b (flat_map escaped bs) rest (nat_eq b 60) refl (read bs rest)

pub whole : (json rest : List ℕ) → up_to_tag (safe json ++ 60 ∷ rest) ≡ safe json
unfolding safe
whole json rest = read json rest
