-- Steps of writing, one behind another: what is yet to be written, what is written, and both together.
use Rattle.std.proofs.Common.{◌≡◌, ℕ, List, ◌++◌, Result, Ok, Err, OnOk, ap, ◌∙◌, sym, append_assoc}

pub where_ok : {X E P Q : Type 0} (r : Result X E) → OnOk r P → (P → Q) → OnOk r Q
where_ok (Ok x) h f = f h
where_ok (Err e) h f = tt

-- laid upon the stack, on what lay there
pub ground : {q p r : List ℕ} (x : List ℕ) → q ≡ x ++ p → p ≡ r → q ≡ x ++ r
ground x e f = e ∙ ap (λ z. x ++ z) f

pub onto : {r q : List ℕ} (p x y : List ℕ) → r ≡ y ++ q → q ≡ x ++ p → r ≡ (y ++ x) ++ p
onto p x y e f = e ∙ ap (λ z. y ++ z) f ∙ sym (append_assoc y x p)

pub onto_four : {r q : List ℕ} (p x a b c d : List ℕ) → r ≡ (a ++ (b ++ (c ++ d))) ++ q → q ≡ x ++ p → r ≡ (a ++ (b ++ (c ++ (d ++ x)))) ++ p
onto_four p x a b c d e f =
    onto p x (a ++ (b ++ (c ++ d))) e f ∙ ap (λ z. z ++ p) (append_assoc a (b ++ (c ++ d)) x ∙ ap (λ z. a ++ z) (append_assoc b (c ++ d) x ∙ ap (λ z. b ++ z) (append_assoc c d x)))

-- what is written, and the stack behind it
pub both : {u v w : List ℕ} (r p : List ℕ) → u ≡ w → v ≡ r ++ p → u ++ v ≡ w ++ (r ++ p)
both {u} {v} {w} r p e f = ap (λ z. z ++ v) e ∙ ap (λ z. w ++ z) f

pub over : {u q p : List ℕ} (w r : List ℕ) → u ≡ w ++ (r ++ q) → q ≡ p → u ≡ w ++ (r ++ p)
over w r e f = e ∙ ap (λ z. w ++ (r ++ z)) f

pub under : {u q : List ℕ} (w r s p : List ℕ) → u ≡ w ++ (r ++ q) → q ≡ s ++ p → u ≡ w ++ ((r ++ s) ++ p)
under w r s p e f = e ∙ ap (λ z. w ++ (r ++ z)) f ∙ ap (λ z. w ++ z) (sym (append_assoc r s p))

pub from : {u w v : List ℕ} (r : List ℕ) → u ≡ w ++ r → w ≡ v → u ≡ v ++ r
from r e f = e ∙ ap (λ z. z ++ r) f

-- behind what was written before
pub after : {u w : List ℕ} (r p v x : List ℕ) → u ≡ w ++ (r ++ p) → w ≡ v ++ x → u ≡ v ++ ((x ++ r) ++ p)
after r p v x e f = from (r ++ p) e f ∙ append_assoc v x (r ++ p) ∙ ap (λ z. v ++ z) (sym (append_assoc x r p))

pub after_two : {u w : List ℕ} (r p v x y : List ℕ) → u ≡ w ++ (r ++ p) → w ≡ v ++ (x ++ y) → u ≡ v ++ ((x ++ (y ++ r)) ++ p)
after_two r p v x y e f = after r p v (x ++ y) e f ∙ ap (λ z. v ++ (z ++ p)) (append_assoc x y r)
