-- The part of a line that is shown.
use Rattle.std.proofs.Common.{◌≡◌, ℕ, zero, suc, ◌-◌, ◌<◌, true, false, cond, refl, ap, sym, ◌∙◌, arith}
use Rattle.std.proofs.lemmas.Bool.Decides.{nat_tests}
use Rattle.ecma_estree_text.specs.Places.{Placed}
use Rattle.ecma_faults.specs.Excerpt.{back, is_far, left_of}
use Rattle.ecma_outline.specs.Piece.{is_boundary}

abbrev at_start : Placed → (edge left n : ℕ) → ℕ
at_start p edge left n = cond (is_far p (left_of p edge left (suc n)) (suc n)) (suc n) (back p (suc n) (left_of p edge left (suc n)) n)

pub back_none : (p : Placed) (edge left : ℕ) → back p edge left 0 ≡ 0
unfolding back
back_none p edge left = refl

-- where it begins
pub back_here : (p : Placed) (edge left n : ℕ) → 0 < n → is_boundary p.text n ≡ true → is_far p (left_of p edge left n) n ≡ true → back p edge left n ≡ n
unfolding back
back_here p edge left zero h b f = omega arith
back_here p edge left (suc n) h b f = ap (λ c. cond c (at_start p edge left n) (back p edge left n)) b ∙ ap (λ c. cond c (suc n) (back p (suc n) (left_of p edge left (suc n)) n)) f

-- where a character begins before which it does
pub back_on : (p : Placed) (edge left n : ℕ) → 0 < n → is_boundary p.text n ≡ true → is_far p (left_of p edge left n) n ≡ false
    → back p edge left n ≡ back p n (left_of p edge left n) (n - 1)
unfolding back
back_on p edge left zero h b f = omega arith
back_on p edge left (suc n) h b f =
    let less : suc n - 1 ≡ n = omega arith in
    ap (λ c. cond c (at_start p edge left n) (back p edge left n)) b ∙ ap (λ c. cond c (suc n) (back p (suc n) (left_of p edge left (suc n)) n)) f
    ∙ ap (back p (suc n) (left_of p edge left (suc n))) (sym less)

-- in the midst of a character
pub back_in : (p : Placed) (edge left n : ℕ) → 0 < n → is_boundary p.text n ≡ false → back p edge left n ≡ back p edge left (n - 1)
unfolding back
back_in p edge left zero h b = omega arith
back_in p edge left (suc n) h b =
    let less : suc n - 1 ≡ n = omega arith in
    ap (λ c. cond c (at_start p edge left n) (back p edge left n)) b ∙ ap (back p edge left) (sym less)
