-- A regular expression in quotes, part by part.
use Rattle.std.proofs.Common.{◌≡◌, ℕ, List, [], ◌∷◌, ◌++◌, ap, sym, ◌∙◌, append_assoc, refl}
use Rattle.std.specs.List.{flat_map}
use Rattle.ecma_estree_text.specs.Quoted.{escaped, regex_text, wrapped}

escaped_both : (xs ys : List ℕ) → flat_map escaped (xs ++ ys) ≡ flat_map escaped xs ++ flat_map escaped ys
escaped_both [] ys = refl
escaped_both (x ∷ xs) ys = ap (λ r. escaped x ++ r) (escaped_both xs ys) ∙ sym (append_assoc (escaped x) (flat_map escaped xs) (flat_map escaped ys))

pub wrapped_regex : (exp flags : List ℕ) → wrapped (regex_text exp flags) ≡ 34 ∷ 47 ∷ (flat_map escaped exp ++ (47 ∷ (flat_map escaped flags ++ 34 ∷ [])))
wrapped_regex exp flags =
    ap (λ r. 34 ∷ 47 ∷ (r ++ 34 ∷ [])) (escaped_both exp (47 ∷ flags))
    ∙ ap (λ r. 34 ∷ 47 ∷ r) (append_assoc (flat_map escaped exp) (47 ∷ flat_map escaped flags) (34 ∷ []))
