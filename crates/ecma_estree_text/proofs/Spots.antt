-- The places of a text and one byte more.
use Rattle.std.proofs.Common.{◌≡◌, ℕ, List, [], ◌∷◌, ◌++◌, ◌+◌, ◌≤◌, ◌<◌, arith, refl, ap, sym, ◌∙◌, get_or, take, length, inl, inr}
use Rattle.std.proofs.lemmas.Bool.{cases_lt}
use Rattle.std.proofs.lemmas.List.{get_or_append_left, get_or_push, take_more}
use Rattle.ecma_estree_text.specs.Spots.{outset, spot_at, spot_behind, spot_past}
use Rattle.ecma_estree_text.specs.declared.spot.Spot.{Spot}

spot_past_push : (p : Spot) (bs : List ℕ) (b : ℕ) → spot_past p (bs ++ b ∷ []) ≡ spot_behind (spot_past p bs) b
spot_past_push p [] b = refl
spot_past_push p (x ∷ xs) b = spot_past_push (spot_behind p x) xs b

-- the place of one byte more
pub spot_more : (text : List ℕ) (i : ℕ) (p : Spot) → i < length text → p ≡ spot_at text i
    → spot_behind p (get_or text i 0) ≡ spot_at text (i + 1)
spot_more text i p h e = ap (λ q. spot_behind q (get_or text i 0)) e ∙ sym (spot_past_push outset (take i text) (get_or text i 0)) ∙ ap (spot_past outset) (sym (take_more text i 0 h))

below : (text : List ℕ) (spots : List Spot) (i : ℕ) (c : Spot) (n : ℕ) (d : Spot) → length spots ≡ i + 1 → n ≤ i
    → ((k : ℕ) → k ≤ i → (p : Spot) → get_or spots k p ≡ spot_at text k) → get_or (spots ++ c ∷ []) n d ≡ spot_at text n
below text spots i c n d size h f = get_or_append_left spots (c ∷ []) d n (omega arith) ∙ f n h d

at_end : (text : List ℕ) (spots : List Spot) (i : ℕ) (c : Spot) (n : ℕ) (d : Spot) → length spots ≡ i + 1 → n ≡ i + 1 → c ≡ spot_at text (i + 1)
    → get_or (spots ++ c ∷ []) n d ≡ spot_at text n
at_end text spots i c n d size e h = get_or_push spots c d n (size ∙ sym e) ∙ h ∙ ap (spot_at text) (sym e)

-- the places up to a byte, with that of the next
pub spots_more : (text : List ℕ) (spots : List Spot) (i : ℕ) (c : Spot) → length spots ≡ i + 1 → c ≡ spot_at text (i + 1)
    → ((k : ℕ) → k ≤ i → (p : Spot) → get_or spots k p ≡ spot_at text k)
    → (n : ℕ) → n ≤ i + 1 → (d : Spot) → get_or (spots ++ c ∷ []) n d ≡ spot_at text n
spots_more text spots i c size h f n b d = elim (cases_lt i n) [
  | inl above ↦ at_end text spots i c n d size (omega arith) h
  | inr here ↦ below text spots i c n d size (omega arith) f
]
