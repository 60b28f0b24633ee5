-- Expressions as what `=` assigns to: a list is turned part by part.
use Rattle.std.proofs.Common.{arith, ◌≡◌, ℕ, ◌-◌, ◌<◌, Bool, nat_eq, true, false, List, [], ◌∷◌, ◌++◌, length, map, Option, Some, None, refl, ap, sym, subst, append_assoc, ◌∙◌}
use Rattle.std.proofs.lemmas.List.{map_push}
use Rattle.swc_ecma_parser_model.specs.Size.{tree_size, trees_size}
use Rattle.swc_ecma_parser_model.specs.Targets.{alone, as_elements, as_pattern, as_properties, as_property, before, rest_of, simple_target}
use Rattle.swc_ecma_parser_model.specs.Tree as tree
use Rattle.swc_ecma_parser_model.specs.Tree.{Tree, Trees, trees, none, also}
use Rattle.swc_ecma_parser_model.specs.Held.{Held}
use Rattle.swc_ecma_parser_ast.specs.View.{view_expr, view_lit, view_prop}
use Rattle.swc_ecma_parser_ast.specs.declared.expr.Expr.{Expr}
use Rattle.swc_ecma_parser_ast.specs.declared.expr.Expr.TheVariants as v_expr
use Rattle.swc_ecma_parser_ast.specs.declared.expr.Lit.{Lit}
use Rattle.swc_ecma_parser_ast.specs.declared.expr.Lit.TheVariants as v_lit
use Rattle.swc_ecma_parser_ast.specs.declared.object.ArrayLit.{ArrayLit}
use Rattle.swc_ecma_parser_ast.specs.declared.object.ObjectLit.{ObjectLit}
use Rattle.swc_ecma_parser_ast.specs.declared.object.Prop.{Prop}
use Rattle.swc_ecma_parser_ast.specs.declared.object.Prop.TheVariants as v_prop
use Rattle.swc_ecma_parser_ast.specs.declared.target.AssignExpr.{AssignExpr}
use Rattle.swc_ecma_parser_ast_parts.specs.Targets.{as_element_at, as_property_at}

literal_pattern : (defaults : Bool) (x : Lit) → as_pattern defaults (view_lit x) ≡ simple_target (view_lit x)
literal_pattern true (v_lit.Str _) = refl
literal_pattern true _ = refl
literal_pattern false (v_lit.Str _) = refl
literal_pattern false _ = refl

-- an expression of the other forms has no parts that become patterns
pub other_pattern : (defaults : Bool) (x : Expr Held)
    → ((y : ArrayLit Held) → x ≡ v_expr.Array y → ⊥) → ((y : ObjectLit Held) → x ≡ v_expr.Object y → ⊥) → ((y : AssignExpr Held) → x ≡ v_expr.Assign y → ⊥)
    → as_pattern defaults (view_expr x) ≡ simple_target (view_expr x)
other_pattern defaults (v_expr.Array y) array object assign = absurd (array y refl)
other_pattern defaults (v_expr.Object y) array object assign = absurd (object y refl)
other_pattern defaults (v_expr.Assign y) array object assign = absurd (assign y refl)
other_pattern defaults (v_expr.Lit y) array object assign = literal_pattern defaults y
other_pattern true _ array object assign = refl
other_pattern false _ array object assign = refl

-- whether nothing stands behind
abbrev pub is_end : Trees → Bool
is_end none = true
is_end (also _ _) = false

alone_before : (o : Option Tree) → alone o ≡ before o (Some none)
alone_before None = refl
alone_before (Some _) = refl

pub elements_step : (t : Tree) (ts : Trees) → as_elements (also t ts) ≡ before (as_element_at (is_end ts) t) (as_elements ts)
elements_step (tree.element (Some dots) x) none = alone_before (rest_of dots x (as_pattern false x))
elements_step (tree.element (Some _) _) (also _ _) = refl
elements_step (tree.element None _) none = refl
elements_step (tree.element None _) (also _ _) = refl
elements_step _ none = refl
elements_step _ (also _ _) = refl

pub properties_step : (t : Tree) (ts : Trees) → as_properties (also t ts) ≡ before (as_property_at (is_end ts) t) (as_properties ts)
properties_step (tree.spread_prop dots x) none = alone_before (rest_of dots x (simple_target x))
properties_step (tree.spread_prop _ _) (also _ _) = refl
properties_step _ none = refl
properties_step _ (also _ _) = refl

-- parts that were turned, before those that are to come
abbrev pub prefixed : List Tree → Option Trees → Option Trees
prefixed [] o = o
prefixed (p ∷ ps) o = before (Some p) (prefixed ps o)

prefixed_none : (ps : List Tree) → prefixed ps None ≡ None
prefixed_none [] = refl
prefixed_none (p ∷ ps) = ap (before (Some p)) (prefixed_none ps)

prefixed_all : (ps : List Tree) → prefixed ps (Some none) ≡ Some (trees ps)
prefixed_all [] = refl
prefixed_all (p ∷ ps) = ap (before (Some p)) (prefixed_all ps)

prefixed_push : (ps : List Tree) (p : Tree) (o : Option Trees) → prefixed (ps ++ (p ∷ [])) o ≡ prefixed ps (before (Some p) o)
prefixed_push [] p o = refl
prefixed_push (q ∷ ps) p o = ap (before (Some q)) (prefixed_push ps p o)

-- what each part becomes decides what the list becomes
abbrev pub Turns : (Trees → Option Trees) → (Bool → Tree → Option Tree) → Type 0
Turns whole part = (t : Tree) (ts : Trees) → whole (also t ts) ≡ before (part (is_end ts) t) (whole ts)

-- a list of which some parts were turned and the rest is to come
abbrev pub Turning : {X Y : Type 0} → (X → Tree) → (Y → Tree) → (Trees → Option Trees) → (all : List X) → (found : List Y) → (rest : List X) → Type 0
Turning v w whole all found rest = whole (trees (map v all)) ≡ prefixed (map w found) (whole (trees (map v rest)))

turning_more : {X Y : Type 0} (v : X → Tree) (w : Y → Tree) (whole : Trees → Option Trees) (part : Bool → Tree → Option Tree)
    → Turns whole part → (all : List X) (found : List Y) (x : X) (rest : List X) (y : Y)
    → Turning v w whole all found (x ∷ rest) → part (is_end (trees (map v rest))) (v x) ≡ Some (w y)
    → Turning v w whole all (found ++ (y ∷ [])) rest
turning_more v w whole part turns all found x rest y so_far e =
    let ts = trees (map v rest) in
    so_far ∙ ap (prefixed (map w found)) (turns (v x) ts ∙ ap (λ o. before o (whole ts)) e)
    ∙ sym (ap (λ ps. prefixed ps (whole ts)) (map_push w found y) ∙ prefixed_push (map w found) (w y) (whole ts))

turning_fails : {X Y : Type 0} (v : X → Tree) (w : Y → Tree) (whole : Trees → Option Trees) (part : Bool → Tree → Option Tree)
    → Turns whole part → (all : List X) (found : List Y) (x : X) (rest : List X)
    → Turning v w whole all found (x ∷ rest) → part (is_end (trees (map v rest))) (v x) ≡ None
    → whole (trees (map v all)) ≡ None
turning_fails v w whole part turns all found x rest so_far e =
    let ts = trees (map v rest) in
    so_far ∙ ap (prefixed (map w found)) (turns (v x) ts ∙ ap (λ o. before o (whole ts)) e) ∙ prefixed_none (map w found)

turning_ends : {X Y : Type 0} (v : X → Tree) (w : Y → Tree) (whole : Trees → Option Trees) → whole none ≡ Some none
    → (all : List X) (found : List Y) → Turning v w whole all found [] → whole (trees (map v all)) ≡ Some (trees (map w found))
turning_ends v w whole e all found so_far = so_far ∙ ap (prefixed (map w found)) e ∙ prefixed_all (map w found)

-- the last of a list is the one with nothing behind it
end_of_list : {X : Type 0} (v : X → Tree) (rest : List X) (n : ℕ) → n ≡ length rest → nat_eq n 0 ≡ is_end (trees (map v rest))
end_of_list v [] n h = ap (λ k. nat_eq k 0) h
end_of_list v (x ∷ rest) n h = Prim.grind arith

-- a part is smaller than its list
part_size : {X : Type 0} (v : X → Tree) (passed : List X) (x : X) (later : List X) → tree_size (v x) < trees_size (trees (map v (passed ++ (x ∷ later))))
part_size v [] x later = omega arith
part_size v (y ∷ passed) x later = let h = part_size v passed x later in omega arith

-- one step of a loop over a list, from what is left of it to what comes later
pub part_falls : {X : Type 0} (v : X → Tree) (all passed rest : List X) (x : X) (later : List X) → passed ++ rest ≡ all → rest ≡ x ∷ later
    → tree_size (v x) < trees_size (trees (map v all))
part_falls v all passed rest x later so_far step =
    subst (λ xs. tree_size (v x) < trees_size (trees (map v xs))) (ap (λ r. passed ++ r) (sym step) ∙ so_far) (part_size v passed x later)

pub passed_more : {X : Type 0} (all passed rest : List X) (x : X) (later : List X) → passed ++ rest ≡ all → rest ≡ x ∷ later → (passed ++ (x ∷ [])) ++ later ≡ all
passed_more all passed rest x later so_far step = append_assoc passed (x ∷ []) later ∙ ap (λ r. passed ++ r) (sym step) ∙ so_far

pub left_less : {X : Type 0} (rest : List X) (n : ℕ) (x : X) (later : List X) → n ≡ length rest → rest ≡ x ∷ later → n - 1 ≡ length later
left_less rest n x later count step = let h = ap length step in omega arith

pub turned_more : {X Y : Type 0} (v : X → Tree) (w : Y → Tree) (whole : Trees → Option Trees) (part : Bool → Tree → Option Tree)
    → Turns whole part → (all : List X) (found : List Y) (rest : List X) (n : ℕ) (x : X) (later : List X)
    → Turning v w whole all found rest → n ≡ length rest → rest ≡ x ∷ later
    → (y : Y) → part (nat_eq (n - 1) 0) (v x) ≡ Some (w y) → (more : List Y) → more ≡ found ++ (y ∷ [])
    → Turning v w whole all more later
turned_more v w whole part turns all found rest n x later so_far count step y e more pushed =
    let last = end_of_list v later (n - 1) (left_less rest n x later count step) in
    subst (λ ys. Turning v w whole all ys later) (sym pushed)
    (turning_more v w whole part turns all found x later y (subst (λ r. Turning v w whole all found r) step so_far) (ap (λ b. part b (v x)) (sym last) ∙ e))

pub turned_fails : {X Y : Type 0} (v : X → Tree) (w : Y → Tree) (whole : Trees → Option Trees) (part : Bool → Tree → Option Tree)
    → Turns whole part → (all : List X) (found : List Y) (rest : List X) (n : ℕ) (x : X) (later : List X)
    → Turning v w whole all found rest → n ≡ length rest → rest ≡ x ∷ later
    → part (nat_eq (n - 1) 0) (v x) ≡ None → whole (trees (map v all)) ≡ None
turned_fails v w whole part turns all found rest n x later so_far count step e =
    let last = end_of_list v later (n - 1) (left_less rest n x later count step) in
    turning_fails v w whole part turns all found x later (subst (λ r. Turning v w whole all found r) step so_far) (ap (λ b. part b (v x)) (sym last) ∙ e)

nothing_left : {X : Type 0} (xs : List X) → length xs ≡ 0 → xs ≡ []
nothing_left [] h = refl
nothing_left (x ∷ xs) h = absurd (omega arith)

pub turned_all : {X Y : Type 0} (v : X → Tree) (w : Y → Tree) (whole : Trees → Option Trees) → whole none ≡ Some none
    → (all : List X) (found : List Y) (rest : List X) (n : ℕ) → Turning v w whole all found rest → n ≡ length rest → n ≡ 0
    → whole (trees (map v all)) ≡ Some (trees (map w found))
turned_all v w whole e all found rest n so_far count over =
    turning_ends v w whole e all found (subst (λ r. Turning v w whole all found r) (nothing_left rest (sym count ∙ over)) so_far)

-- a property is no spread, so it may stand anywhere
pub property_anywhere : (last : Bool) (x : Prop Held) → as_property_at last (view_prop x) ≡ as_property (view_prop x)
property_anywhere false x = refl
property_anywhere true (v_prop.Shorthand _) = refl
property_anywhere true (v_prop.KeyValue _) = refl
property_anywhere true (v_prop.Assign _) = refl
property_anywhere true (v_prop.Getter _) = refl
property_anywhere true (v_prop.Setter _) = refl
property_anywhere true (v_prop.Method _) = refl
