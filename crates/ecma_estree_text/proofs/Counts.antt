-- The counts of a text and one byte more.
use Rattle.std.proofs.Common.{◌≡◌, ℕ, List, [], ◌∷◌, ◌++◌, ◌+◌, ◌≤◌, ◌<◌, arith, ap, sym, ◌∙◌, get_or, take, length, inl, inr}
use Rattle.std.proofs.lemmas.Bool.{cases_lt}
use Rattle.std.proofs.lemmas.List.{get_or_append_left, get_or_push, take_more}
use Rattle.ecma_estree_text.specs.Spots.{unit_count}
use Rattle.ecma_estree_text.specs.Places.{unit_total}

pub unit_total_push : (bs : List ℕ) (b : ℕ) → unit_total (bs ++ b ∷ []) ≡ unit_total bs + unit_count b
unit_total_push [] b = omega arith
unit_total_push (x ∷ xs) b = let rest = unit_total_push xs b in omega arith

below : (text counts : List ℕ) (i c n : ℕ) → length counts ≡ i + 1 → n ≤ i
    → ((k : ℕ) → k ≤ i → get_or counts k 0 ≡ unit_total (take k text)) → get_or (counts ++ c ∷ []) n 0 ≡ unit_total (take n text)
below text counts i c n size h f = get_or_append_left counts (c ∷ []) 0 n (omega arith) ∙ f n h

at_end : (text counts : List ℕ) (i c n : ℕ) → length counts ≡ i + 1 → n ≡ i + 1 → c ≡ unit_total (take (i + 1) text)
    → get_or (counts ++ c ∷ []) n 0 ≡ unit_total (take n text)
at_end text counts i c n size e h = get_or_push counts c 0 n (size ∙ sym e) ∙ h ∙ ap (λ k. unit_total (take k text)) (sym e)

-- the counts up to a byte, with that of the next
pub values_more : (text counts : List ℕ) (i c : ℕ) → length counts ≡ i + 1 → c ≡ unit_total (take (i + 1) text)
    → ((k : ℕ) → k ≤ i → get_or counts k 0 ≡ unit_total (take k text))
    → (n : ℕ) → n ≤ i + 1 → get_or (counts ++ c ∷ []) n 0 ≡ unit_total (take n text)
values_more text counts i c size h f n b = elim (cases_lt i n) [
  | inl above ↦ at_end text counts i c n size (omega arith) h
  | inr here ↦ below text counts i c n size (omega arith) f
]

-- the count of one byte more
pub total_more : (text : List ℕ) (i s : ℕ) → i < length text → s ≡ unit_total (take i text)
    → s + unit_count (get_or text i 0) ≡ unit_total (take (i + 1) text)
total_more text i s h e =
    let more = ap unit_total (take_more text i 0 h) in
    let push = unit_total_push (take i text) (get_or text i 0) in
    omega arith
