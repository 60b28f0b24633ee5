-- A token's text, and its end.
use Rattle.std.proofs.Common.{◌≡◌, ℕ, List, [], ◌++◌, ap, ◌∙◌, append_assoc, codes}
use Rattle.ecma_estree_text.specs.Places.{Placed, place_fields}
use Rattle.ecma_estree_text.specs.Quoted.{wrapped}
use Rattle.ecma_estree_lists.specs.Tokens.{token_head, token_tail, written}

ends : (a b c d e : List ℕ) → (a ++ (b ++ (c ++ d))) ++ e ≡ a ++ (b ++ (c ++ (d ++ e)))
ends a b c d e =
    append_assoc a (b ++ (c ++ d)) e ∙ ap (λ r. a ++ r) (append_assoc b (c ++ d) e ∙ ap (λ r. b ++ r) (append_assoc c d e))

pub closed : (p : Placed) (kind value : List ℕ) (low high : ℕ) (old out new : List ℕ)
    → out ≡ old ++ (token_head kind ++ (wrapped value ++ (codes "," ++ place_fields p low high))) → new ≡ out ++ codes "}"
    → new ≡ old ++ written p kind value low high []
unfolding written token_tail
closed p kind value low high old out new e f =
    let text = token_head kind ++ (wrapped value ++ (codes "," ++ place_fields p low high)) in
    f ∙ (ap (λ r. r ++ codes "}") e ∙ (append_assoc old text (codes "}")
    ∙ ap (λ r. old ++ r) (ends (token_head kind) (wrapped value) (codes ",") (place_fields p low high) (codes "}"))))
