-- Equality of trees as a test: that of their codes.
use Rattle.std.specs.Prelude.{◌≡◌, Bool, true, false, ◌&&◌, nat_eq, refl}
use Rattle.std.proofs.Common.{true≢false, sym}
use Rattle.std.specs.Cmp.{IsPartialEquivalence, IsEquivalence, partial_equiv_from_equiv, equiv, first_so, second_so, nat_eq_equiv}
use base.Stored.{Gv, gnil, gnum, gcons}
use Rattle.swc_ecma_parser_model.specs.Tree.{Tree}
use Rattle.swc_ecma_parser_model.specs.Code.{code}

abbrev pub alike : Gv → Gv → Bool
alike gnil gnil = true
alike (gnum m) (gnum n) = nat_eq m n
alike (gcons a b) (gcons c d) = alike a c && alike b d
alike _ _ = false

no : {A : Type 0} → false ≡ true → A
no p = absurd (true≢false (sym p))

alike-refl : (x : Gv) → alike x x ≡ true
alike-refl gnil = refl
alike-refl (gnum n) = nat_eq_equiv.refl n
alike-refl (gcons a b) = λ k. alike-refl a k && alike-refl b k

alike-symm : (x y : Gv) → alike x y ≡ alike y x
alike-symm gnil gnil = refl
alike-symm (gnum m) (gnum n) = nat_eq_equiv.symm m n
alike-symm (gcons a b) (gcons c d) = λ k. alike-symm a c k && alike-symm b d k
alike-symm gnil (gnum n) = refl
alike-symm gnil (gcons a b) = refl
alike-symm (gnum n) gnil = refl
alike-symm (gnum n) (gcons a b) = refl
alike-symm (gcons a b) gnil = refl
alike-symm (gcons a b) (gnum n) = refl

alike-trans : (x y z : Gv) → alike x y ≡ true → alike y z ≡ true → alike x z ≡ true
alike-trans gnil gnil z p q = q
alike-trans (gnum l) (gnum m) (gnum n) p q = (partial_equiv_from_equiv nat_eq_equiv).trans l m n p q
alike-trans (gcons a b) (gcons c d) (gcons e f) p q =
    let ac = first_so (alike a c) (alike b d) p in
    let bd = second_so (alike a c) (alike b d) p in
    let ce = first_so (alike c e) (alike d f) q in
    let df = second_so (alike c e) (alike d f) q in
    λ k. alike-trans a c e ac ce k && alike-trans b d f bd df k
alike-trans (gnum l) (gnum m) gnil p q = no q
alike-trans (gnum l) (gnum m) (gcons e f) p q = no q
alike-trans (gcons a b) (gcons c d) gnil p q = no q
alike-trans (gcons a b) (gcons c d) (gnum n) p q = no q
alike-trans gnil (gnum n) z p q = no p
alike-trans gnil (gcons a b) z p q = no p
alike-trans (gnum n) gnil z p q = no p
alike-trans (gnum n) (gcons a b) z p q = no p
alike-trans (gcons a b) gnil z p q = no p
alike-trans (gcons a b) (gnum n) z p q = no p

abbrev pub same : Tree → Tree → Bool
same x y = alike (code x) (code y)

pub same_laws : IsPartialEquivalence same
same_laws = record { symm = λ x y. alike-symm (code x) (code y); trans = λ x y z. alike-trans (code x) (code y) (code z) }

pub same_equivalence : IsEquivalence same
same_equivalence = equiv same_laws (λ x. alike-refl (code x))
