-- Two links of chains are alike where they are but for the parts on which they go on, and these parts are; and such a part is smaller.
use Rattle.std.proofs.Common.{◌≡◌, refl, Bool, true, false, true≢false, ◌&&◌, ◌∙◌, sym, ap, Option, Some, None, ℕ, ◌<◌, ◌+◌, ◌*◌, ◌≤◌, max, arith}
use Rattle.std.specs.Option.{option_eq}
use Rattle.std.specs.Cmp.Lexicographic.{pointwise}
use Rattle.swc_ecma_parser_model.specs.Leaf.{put_binary, put_bool}
use Rattle.swc_ecma_parser_model.specs.Same.{alike}
use Rattle.swc_ecma_parser_model.specs.Held.{Held, same_held}
use Rattle.swc_ecma_parser_model.specs.Size.{tree_size}
use Rattle.swc_ecma_parser_model.specs.Kinds.{is_expr}
use Rattle.swc_ecma_parser_ast.specs.Equal.{equal_callee, equal_expr, equal_expr_or_spread, equal_member_prop, equal_opt_chain_base, equal_span, equal_stmt, equal_tpl}
use Rattle.swc_ecma_parser_ast.specs.Nodes.{view_any}
use Rattle.swc_ecma_parser_ast.specs.Parts.{view_option}
use Rattle.swc_ecma_parser_ast.specs.View.{view_callee, view_expr, view_opt_chain_base, view_stmt}
use Rattle.swc_ecma_parser_ast.specs.Falls.{le_any, marked_size}
use Rattle.swc_ecma_parser_ast.specs.Chain.{alike_bases, alike_bins, alike_calls, alike_exprs, alike_ifs, alike_links, alike_members, alike_opt_calls, alike_stmts, alike_tagged, rest_of_any, rest_of_base, rest_of_callee, rest_of_else, rest_of_expr, rest_of_stmt}
use Rattle.swc_ecma_parser_ast.proofs.Alike.{alike_expr, alike_stmt}
use Rattle.swc_ecma_parser_ast.specs.Apart.{expr_stmt, stmt_expr}
use Rattle.swc_ecma_parser_ast.specs.declared.branch.IfStmt.{IfStmt}
use Rattle.swc_ecma_parser_ast.specs.declared.call.CallExpr.{CallExpr}
use Rattle.swc_ecma_parser_ast.specs.declared.call.Callee.{Callee}
use Rattle.swc_ecma_parser_ast.specs.declared.call.Callee.TheVariants as v_callee
use Rattle.swc_ecma_parser_ast.specs.declared.call.MemberExpr.{MemberExpr}
use Rattle.swc_ecma_parser_ast.specs.declared.call.OptChainBase.{OptChainBase}
use Rattle.swc_ecma_parser_ast.specs.declared.call.OptChainBase.TheVariants as v_opt_chain_base
use Rattle.swc_ecma_parser_ast.specs.declared.call.OptChainExpr.{OptChainExpr}
use Rattle.swc_ecma_parser_ast.specs.declared.expr.BinExpr.{BinExpr}
use Rattle.swc_ecma_parser_ast.specs.declared.expr.Expr.{Expr}
use Rattle.swc_ecma_parser_ast.specs.declared.expr.Expr.TheVariants as v_expr
use Rattle.swc_ecma_parser_ast.specs.declared.node.Any.{Any}
use Rattle.swc_ecma_parser_ast.specs.declared.node.Any.TheVariants as v_any
use Rattle.swc_ecma_parser_ast.specs.declared.node.Node.TheDeep.{deep-Any}
use Rattle.swc_ecma_parser_ast.specs.declared.node.StmtBox.{StmtBox}
use Rattle.swc_ecma_parser_ast.specs.declared.stmt.Stmt.{Stmt}
use Rattle.swc_ecma_parser_ast.specs.declared.stmt.Stmt.TheVariants as v_stmt
use Rattle.swc_ecma_parser_ast.specs.declared.template.TaggedTpl.{TaggedTpl}

no : {A : Type 0} → false ≡ true → A
no p = absurd (true≢false (sym p))

abbrev is_some : Option Held → Bool
is_some (Some n) = true
is_some None = false

abbrev or_else : Held → Option Held → Held
or_else d (Some n) = n
or_else d None = d

-- the two parts that go on are the ones that were found
parts : (x y l r : Held) → Some x ≡ Some l → Some y ≡ Some r → same_held l r ≡ same_held x y
parts x y l r h k = λ i. same_held (sym (ap (or_else x) h) i) (sym (ap (or_else y) k) i)

-- the part that goes on, last
last_of_four : (s o r l : Bool) → ((s && (o && r)) && l) ≡ (s && (o && (l && r)))
last_of_four false o r l = refl
last_of_four true false r l = refl
last_of_four true true true true = refl
last_of_four true true true false = refl
last_of_four true true false true = refl
last_of_four true true false false = refl

last_of_three : (s p l : Bool) → ((s && p) && l) ≡ (s && (l && p))
last_of_three false p l = refl
last_of_three true true true = refl
last_of_three true true false = refl
last_of_three true false true = refl
last_of_three true false false = refl

-- the part that goes on, in what stands last
last_of_last : (s o b l e : Bool) → (b && l) ≡ e → ((s && (o && b)) && l) ≡ (s && (o && e))
last_of_last false o b l e h = refl
last_of_last true false b l e h = refl
last_of_last true true b l e h = h

in_order : (s t c a : Bool) → ((s && (t && c)) && a) ≡ (s && (t && (c && a)))
in_order false t c a = refl
in_order true false c a = refl
in_order true true c a = refl

of_bin : (x : BinExpr Held) (y : Expr Held) (l r : Held) → Some x.left.node ≡ Some l → rest_of_expr y ≡ Some r
    → (alike_exprs same_held (v_expr.Bin x) y && same_held l r) ≡ equal_expr same_held (v_expr.Bin x) y
of_bin x (v_expr.Bin y) l r h k =
    (λ i. alike_bins same_held x y && parts x.left.node y.left.node l r h k i)
    ∙ last_of_four (equal_span x.span y.span) (alike (put_binary x.op) (put_binary y.op)) (same_held x.right.node y.right.node) (same_held x.left.node y.left.node)
of_bin x _ l r h k = refl

of_member : (x : MemberExpr Held) (y : Expr Held) (l r : Held) → Some x.obj.node ≡ Some l → rest_of_expr y ≡ Some r
    → (alike_exprs same_held (v_expr.Member x) y && same_held l r) ≡ equal_expr same_held (v_expr.Member x) y
of_member x (v_expr.Member y) l r h k =
    (λ i. alike_members same_held x y && parts x.obj.node y.obj.node l r h k i)
    ∙ last_of_three (equal_span x.span y.span) (equal_member_prop same_held x.prop y.prop) (same_held x.obj.node y.obj.node)
of_member x _ l r h k = refl

of_callee : (f g : Callee Held) (l r : Held) → rest_of_callee f ≡ Some l → rest_of_callee g ≡ Some r → same_held l r ≡ equal_callee same_held f g
of_callee (v_callee.Expr f) (v_callee.Expr g) l r h k = parts f.node g.node l r h k
of_callee (v_callee.Expr f) (v_callee.Super g) l r h k = no (ap is_some k)
of_callee (v_callee.Expr f) (v_callee.Import g) l r h k = no (ap is_some k)
of_callee (v_callee.Super f) g l r h k = no (ap is_some h)
of_callee (v_callee.Import f) g l r h k = no (ap is_some h)

of_call : (x : CallExpr Held) (y : Expr Held) (l r : Held) → rest_of_callee x.callee ≡ Some l → rest_of_expr y ≡ Some r
    → (alike_exprs same_held (v_expr.Call x) y && same_held l r) ≡ equal_expr same_held (v_expr.Call x) y
of_call x (v_expr.Call y) l r h k =
    (λ i. alike_calls same_held x y && of_callee x.callee y.callee l r h k i)
    ∙ last_of_three (equal_span x.span y.span) (pointwise (equal_expr_or_spread same_held) x.args.items y.args.items) (equal_callee same_held x.callee y.callee)
of_call x _ l r h k = refl

of_tagged : (x : TaggedTpl Held) (y : Expr Held) (l r : Held) → Some x.tag.node ≡ Some l → rest_of_expr y ≡ Some r
    → (alike_exprs same_held (v_expr.TaggedTpl x) y && same_held l r) ≡ equal_expr same_held (v_expr.TaggedTpl x) y
of_tagged x (v_expr.TaggedTpl y) l r h k =
    (λ i. alike_tagged same_held x y && parts x.tag.node y.tag.node l r h k i)
    ∙ last_of_three (equal_span x.span y.span) (equal_tpl same_held x.tpl.value y.tpl.value) (same_held x.tag.node y.tag.node)
of_tagged x _ l r h k = refl

of_base : (x y : OptChainBase Held) (l r : Held) → Some (rest_of_base x) ≡ Some l → Some (rest_of_base y) ≡ Some r
    → (alike_bases same_held x y && same_held l r) ≡ equal_opt_chain_base same_held x y
of_base (v_opt_chain_base.Member x) (v_opt_chain_base.Member y) l r h k =
    (λ i. alike_members same_held x y && parts x.obj.node y.obj.node l r h k i)
    ∙ last_of_three (equal_span x.span y.span) (equal_member_prop same_held x.prop y.prop) (same_held x.obj.node y.obj.node)
of_base (v_opt_chain_base.Call x) (v_opt_chain_base.Call y) l r h k =
    (λ i. alike_opt_calls same_held x y && parts x.callee.node y.callee.node l r h k i)
    ∙ last_of_three (equal_span x.span y.span) (pointwise (equal_expr_or_spread same_held) x.args.items y.args.items) (same_held x.callee.node y.callee.node)
of_base _ _ l r h k = refl

of_opt_chain : (x : OptChainExpr Held) (y : Expr Held) (l r : Held) → Some (rest_of_base x.base.value) ≡ Some l → rest_of_expr y ≡ Some r
    → (alike_exprs same_held (v_expr.OptChain x) y && same_held l r) ≡ equal_expr same_held (v_expr.OptChain x) y
of_opt_chain x (v_expr.OptChain y) l r h k =
    last_of_last (equal_span x.span y.span) (alike (put_bool x.optional) (put_bool y.optional)) (alike_bases same_held x.base.value y.base.value) (same_held l r)
    (equal_opt_chain_base same_held x.base.value y.base.value) (of_base x.base.value y.base.value l r h k)
of_opt_chain x _ l r h k = refl

of_expr : (x y : Expr Held) (l r : Held) → rest_of_expr x ≡ Some l → rest_of_expr y ≡ Some r
    → (alike_exprs same_held x y && same_held l r) ≡ equal_expr same_held x y
of_expr (v_expr.Bin x) y l r h k = of_bin x y l r h k
of_expr (v_expr.Member x) y l r h k = of_member x y l r h k
of_expr (v_expr.Call x) y l r h k = of_call x y l r h k
of_expr (v_expr.TaggedTpl x) y l r h k = of_tagged x y l r h k
of_expr (v_expr.OptChain x) y l r h k = of_opt_chain x y l r h k
of_expr _ y l r h k = no (ap is_some h)

of_else : (x y : Option (StmtBox Held)) (l r : Held) → rest_of_else x ≡ Some l → rest_of_else y ≡ Some r
    → same_held l r ≡ option_eq (λ a b. same_held a.node b.node) x y
of_else (Some x) (Some y) l r h k = parts x.node y.node l r h k
of_else (Some x) None l r h k = no (ap is_some k)
of_else None y l r h k = no (ap is_some h)

of_if : (x : IfStmt Held) (y : Stmt Held) (l r : Held) → rest_of_else x.alt ≡ Some l → rest_of_stmt y ≡ Some r
    → (alike_stmts same_held (v_stmt.If x) y && same_held l r) ≡ equal_stmt same_held (v_stmt.If x) y
of_if x (v_stmt.If y) l r h k =
    (λ i. alike_ifs same_held x y && of_else x.alt y.alt l r h k i)
    ∙ in_order (equal_span x.span y.span) (same_held x.test.node y.test.node) (same_held x.cons.node y.cons.node) (option_eq (λ a b. same_held a.node b.node) x.alt y.alt)
of_if x _ l r h k = refl

of_stmt : (x y : Stmt Held) (l r : Held) → rest_of_stmt x ≡ Some l → rest_of_stmt y ≡ Some r
    → (alike_stmts same_held x y && same_held l r) ≡ equal_stmt same_held x y
of_stmt (v_stmt.If x) y l r h k = of_if x y l r h k
of_stmt _ y l r h k = no (ap is_some h)

of_any : (x y : Any) (l r : Held) → rest_of_any x ≡ Some l → rest_of_any y ≡ Some r
    → (alike_links x y && same_held l r) ≡ same_held (view_any x) (view_any y)
of_any (v_any.Expr x) (v_any.Expr y) l r h k = of_expr x.value y.value l r h k ∙ alike_expr x.value y.value
of_any (v_any.Expr x) (v_any.Stmt y) l r h k = sym (expr_stmt x.value y.value)
of_any (v_any.Stmt x) (v_any.Stmt y) l r h k = of_stmt x.value y.value l r h k ∙ alike_stmt x.value y.value
of_any (v_any.Stmt x) (v_any.Expr y) l r h k = sym (stmt_expr x.value y.value)
of_any (v_any.Expr x) (v_any.Pat y) l r h k = no (ap is_some k)
of_any (v_any.Expr x) (v_any.Stmts y) l r h k = no (ap is_some k)
of_any (v_any.Stmt x) (v_any.Pat y) l r h k = no (ap is_some k)
of_any (v_any.Stmt x) (v_any.Stmts y) l r h k = no (ap is_some k)
of_any (v_any.Pat x) y l r h k = no (ap is_some h)
of_any (v_any.Stmts x) y l r h k = no (ap is_some h)

-- two nodes that hold links are alike where the links are, and the parts on which they go on
pub linked : (x y : Any) (s t l r : Held) → view_any x ≡ s → view_any y ≡ t → rest_of_any x ≡ Some l → rest_of_any y ≡ Some r
    → (alike_links x y && same_held l r) ≡ same_held s t
linked x y s t l r p q h k = of_any x y l r h k ∙ (λ i. same_held (p i) (q i))

pub go_on : (x y : Any) (s t l r : Held) → view_any x ≡ s → view_any y ≡ t → rest_of_any x ≡ Some l → rest_of_any y ≡ Some r
    → alike_links x y ≡ true → same_held l r ≡ same_held s t
go_on x y s t l r p q h k a = sym (λ i. a i && same_held l r) ∙ linked x y s t l r p q h k

pub differ : (x y : Any) (s t l r : Held) → view_any x ≡ s → view_any y ≡ t → rest_of_any x ≡ Some l → rest_of_any y ≡ Some r
    → alike_links x y ≡ false → false ≡ same_held s t
differ x y s t l r p q h k a = sym (λ i. a i && same_held l r) ∙ linked x y s t l r p q h k

-- how large the part is, and one more
abbrev part_size : Option Held → ℕ
part_size (Some n) = 1 + tree_size n.tree
part_size None = 0

fits_callee : (x : Callee Held) → part_size (rest_of_callee x) ≤ 1 + tree_size (view_callee x)
fits_callee (v_callee.Expr x) = omega (arith, marked_size (is_expr x.node.tree) x.node.tree)
fits_callee _ = omega arith

fits_else : (x : Option (StmtBox Held)) → part_size (rest_of_else x) ≤ 1 + tree_size (view_option (λ b. b.node.tree) x)
fits_else (Some x) = omega arith
fits_else None = omega arith

fits_base : (x : OptChainBase Held) → tree_size (rest_of_base x).tree ≤ tree_size (view_opt_chain_base x)
fits_base (v_opt_chain_base.Member x) = omega arith
fits_base (v_opt_chain_base.Call x) = omega (arith, marked_size (is_expr x.callee.node.tree) x.callee.node.tree)

fits_expr : (x : Expr Held) → part_size (rest_of_expr x) ≤ tree_size (view_expr x)
fits_expr (v_expr.Bin x) = omega arith
fits_expr (v_expr.Member x) = omega arith
fits_expr (v_expr.Call x) = omega (arith, fits_callee x.callee)
fits_expr (v_expr.TaggedTpl x) = omega arith
fits_expr (v_expr.OptChain x) = omega (arith, fits_base x.base.value)
fits_expr _ = omega arith

fits_stmt : (x : Stmt Held) → part_size (rest_of_stmt x) ≤ tree_size (view_stmt x)
fits_stmt (v_stmt.If x) = omega (arith, fits_else x.alt)
fits_stmt _ = omega arith

fits_any : (x : Any) → part_size (rest_of_any x) ≤ tree_size (view_any x).tree
fits_any (v_any.Expr x) = fits_expr x.value
fits_any (v_any.Stmt x) = fits_stmt x.value
fits_any _ = omega arith

pub falls : (x : Any) (s n : Held) → view_any x ≡ s → rest_of_any x ≡ Some n → tree_size n.tree < tree_size s.tree
falls x s n h p = omega (arith, fits_any x, ap part_size p, ap (λ y. tree_size y.tree) h)

-- comparing what two nodes hold is less than comparing the nodes
pub below : (x y : Any) (s t : Held) → view_any x ≡ s → view_any y ≡ t
    → 2 * max (deep-Any x) (deep-Any y) + 1 < 2 * (max (tree_size s.tree) (tree_size t.tree) + 1)
below x y s t h k = omega (arith, le_any x, le_any y, ap (λ z. tree_size z.tree) h, ap (λ z. tree_size z.tree) k)
