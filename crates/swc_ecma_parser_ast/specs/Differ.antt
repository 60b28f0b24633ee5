-- Trees whose codes are alike are the same tree, so trees of two kinds never are.
use Rattle.std.proofs.Common.{◌≡◌, refl, Bool, true, false, ◌&&◌, sym, ◌∙◌, ap, true≢false}
use Rattle.std.specs.Cmp.{first_so, second_so}
use Rattle.std.proofs.lemmas.Bool.{eqb-true}
use base.Stored.{Gv, gnil, gnum, gcons}
use Rattle.swc_ecma_parser_model.specs.Tree.{Tree, Trees, list, none, also}
use Rattle.swc_ecma_parser_model.specs.Code.{code}
use Rattle.swc_ecma_parser_model.specs.Code.{code_inj}
use Rattle.swc_ecma_parser_model.specs.Kinds.{is_expr}
use Rattle.swc_ecma_parser_model.specs.Same.{alike, same, same_laws}
use Rattle.swc_ecma_parser_model.specs.Held.{Held, same_held}
use Rattle.swc_ecma_parser_ast.specs.Parts.{marked, as_expr}

no : {A : Type 0} → false ≡ true → A
no p = absurd (true≢false (sym p))

alike_sound : (x y : Gv) → alike x y ≡ true → x ≡ y
alike_sound gnil gnil p = refl
alike_sound (gnum m) (gnum n) p = ap gnum (eqb-true m n p)
alike_sound (gcons a b) (gcons c d) p =
    λ k. gcons (alike_sound a c (first_so (alike a c) (alike b d) p) k) (alike_sound b d (second_so (alike a c) (alike b d) p) k)
alike_sound gnil (gnum n) p = no p
alike_sound gnil (gcons a b) p = no p
alike_sound (gnum n) gnil p = no p
alike_sound (gnum n) (gcons a b) p = no p
alike_sound (gcons a b) gnil p = no p
alike_sound (gcons a b) (gnum n) p = no p

refuted : (b : Bool) → (b ≡ true → false ≡ true) → b ≡ false
refuted true h = no (h refl)
refuted false h = refl

pub differ : (kind : Tree → Bool) (x y : Tree) → kind x ≡ true → kind y ≡ false → same x y ≡ false
differ kind x y p q = refuted (same x y) (λ e. sym q ∙ (sym (ap kind (code_inj x y (alike_sound (code x) (code y) e))) ∙ p))

and_true : (b : Bool) → b ≡ (b && true)
and_true true = refl
and_true false = refl

marked_alike : (t u : Tree) (b c : Bool) → is_expr t ≡ b → is_expr u ≡ c → same t u ≡ same (marked b t) (marked c u)
marked_alike t u true true p q = refl
marked_alike t u false false p q = and_true (same t u)
marked_alike t u true false p q = differ is_expr t u p q ∙ sym (differ is_expr t (list (also u none)) p refl)
marked_alike t u false true p q =
    same_laws.symm t u ∙ (differ is_expr u t q p ∙ sym (same_laws.symm (list (also t none)) u ∙ differ is_expr u (list (also t none)) q refl))

pub alike_as_expr : (x y : Held) → same_held x y ≡ same (as_expr x.tree) (as_expr y.tree)
alike_as_expr x y = marked_alike x.tree y.tree (is_expr x.tree) (is_expr y.tree) refl refl

-- what stands for an expression is no tree that is neither an expression nor a list
marked_other : (t u : Tree) (b : Bool) → is_expr t ≡ b → is_expr u ≡ false → ((ts : Trees) → same (list ts) u ≡ false) → false ≡ same (marked b t) u
marked_other t u true p q h = sym (differ is_expr t u p q)
marked_other t u false p q h = sym (h (also t none))

pub as_expr_other : (x : Held) (u : Tree) → is_expr u ≡ false → ((ts : Trees) → same (list ts) u ≡ false) → false ≡ same (as_expr x.tree) u
as_expr_other x u = marked_other x.tree u (is_expr x.tree) refl

pub other_as_expr : (u : Tree) (x : Held) → is_expr u ≡ false → ((ts : Trees) → same (list ts) u ≡ false) → false ≡ same u (as_expr x.tree)
other_as_expr u x q h = as_expr_other x u q h ∙ same_laws.symm (as_expr x.tree) u
