-- As Links.antt, but for spans: two links of chains are alike but for spans where they are so but for the parts on which they go on, and
-- these parts are.
use Rattle.std.proofs.Common.{◌≡◌, refl, Bool, true, false, true≢false, ◌&&◌, ◌∙◌, sym, ap, Option, Some, None}
use Rattle.std.specs.Option.{option_eq}
use Rattle.std.specs.Cmp.Lexicographic.{pointwise}
use Rattle.swc_ecma_parser_model.specs.Leaf.{put_binary}
use Rattle.swc_ecma_parser_model.specs.Same.{alike}
use Rattle.swc_ecma_parser_model.specs.Held.{Held}
use Rattle.swc_ecma_parser_ast.specs.Like.{any_span, like_callee, like_expr, like_expr_or_spread, like_flag, like_member_prop, like_opt_chain_base, like_stmt, like_tpl}
use Rattle.swc_ecma_parser_ast.specs.Nodes.{view_any}
use Rattle.swc_ecma_parser_ast.specs.Chain.{rest_of_any, rest_of_base, rest_of_callee, rest_of_else, rest_of_expr, rest_of_stmt}
use Rattle.swc_ecma_parser_ast.specs.LikeChain.{like_bases, like_bins, like_calls, like_exprs, like_ifs, like_links, like_members, like_opt_calls, like_stmts, like_tagged}
use Rattle.swc_ecma_parser_ast.specs.Respanned.{alike_expr, alike_stmt}
use Rattle.swc_ecma_parser_ast.proofs.Unlike.{expr_stmt, stmt_expr}
use Rattle.swc_ecma_parser_ast.specs.declared.branch.IfStmt.{IfStmt}
use Rattle.swc_ecma_parser_ast.specs.declared.call.CallExpr.{CallExpr}
use Rattle.swc_ecma_parser_ast.specs.declared.call.Callee.{Callee}
use Rattle.swc_ecma_parser_ast.specs.declared.call.Callee.TheVariants as v_callee
use Rattle.swc_ecma_parser_ast.specs.declared.call.MemberExpr.{MemberExpr}
use Rattle.swc_ecma_parser_ast.specs.declared.call.OptChainBase.{OptChainBase}
use Rattle.swc_ecma_parser_ast.specs.declared.call.OptChainBase.TheVariants as v_opt_chain_base
use Rattle.swc_ecma_parser_ast.specs.declared.call.OptChainExpr.{OptChainExpr}
use Rattle.swc_ecma_parser_ast.specs.declared.expr.BinExpr.{BinExpr}
use Rattle.swc_ecma_parser_ast.specs.declared.expr.Expr.{Expr}
use Rattle.swc_ecma_parser_ast.specs.declared.expr.Expr.TheVariants as v_expr
use Rattle.swc_ecma_parser_ast.specs.declared.node.Any.{Any}
use Rattle.swc_ecma_parser_ast.specs.declared.node.Any.TheVariants as v_any
use Rattle.swc_ecma_parser_ast.specs.declared.node.StmtBox.{StmtBox}
use Rattle.swc_ecma_parser_ast.specs.declared.stmt.Stmt.{Stmt}
use Rattle.swc_ecma_parser_ast.specs.declared.stmt.Stmt.TheVariants as v_stmt
use Rattle.swc_ecma_parser_ast.specs.declared.template.TaggedTpl.{TaggedTpl}
use Rattle.swc_ecma_parser_common.specs.declared.span.Span.{Span}
use Rattle.swc_ecma_parser_ast.specs.Unspanned.{like_held, no_span}

no : {A : Type 0} → false ≡ true → A
no p = absurd (true≢false (sym p))

abbrev is_some : Option Held → Bool
is_some (Some n) = true
is_some None = false

abbrev or_else : Held → Option Held → Held
or_else d (Some n) = n
or_else d None = d

-- the part that goes on, last
last_of_four : (s o r l : Bool) → ((s && (o && r)) && l) ≡ (s && (o && (l && r)))
last_of_four false o r l = refl
last_of_four true false r l = refl
last_of_four true true true true = refl
last_of_four true true true false = refl
last_of_four true true false true = refl
last_of_four true true false false = refl

last_of_three : (s p l : Bool) → ((s && p) && l) ≡ (s && (l && p))
last_of_three false p l = refl
last_of_three true true true = refl
last_of_three true true false = refl
last_of_three true false true = refl
last_of_three true false false = refl

-- the part that goes on, in what stands last
last_of_last : (s o b l e : Bool) → (b && l) ≡ e → ((s && (o && b)) && l) ≡ (s && (o && e))
last_of_last false o b l e h = refl
last_of_last true false b l e h = refl
last_of_last true true b l e h = h

in_order : (s t c a : Bool) → ((s && (t && c)) && a) ≡ (s && (t && (c && a)))
in_order false t c a = refl
in_order true false c a = refl
in_order true true c a = refl

module _ (same_span : Span → Span → Bool) (held : Held → Held → Bool) where
  -- the two parts that go on are the ones that were found
  parts : (x y l r : Held) → Some x ≡ Some l → Some y ≡ Some r → held l r ≡ held x y
  parts x y l r h k = λ i. held (sym (ap (or_else x) h) i) (sym (ap (or_else y) k) i)

  of_bin : (x : BinExpr Held) (y : Expr Held) (l r : Held) → Some x.left.node ≡ Some l → rest_of_expr y ≡ Some r
      → (like_exprs same_span held (v_expr.Bin x) y && held l r) ≡ like_expr same_span held (v_expr.Bin x) y
  of_bin x (v_expr.Bin y) l r h k =
      (λ i. like_bins same_span held x y && parts x.left.node y.left.node l r h k i)
      ∙ last_of_four (same_span x.span y.span) (alike (put_binary x.op) (put_binary y.op)) (held x.right.node y.right.node) (held x.left.node y.left.node)
  of_bin x _ l r h k = refl

  of_member : (x : MemberExpr Held) (y : Expr Held) (l r : Held) → Some x.obj.node ≡ Some l → rest_of_expr y ≡ Some r
      → (like_exprs same_span held (v_expr.Member x) y && held l r) ≡ like_expr same_span held (v_expr.Member x) y
  of_member x (v_expr.Member y) l r h k =
      (λ i. like_members same_span held x y && parts x.obj.node y.obj.node l r h k i)
      ∙ last_of_three (same_span x.span y.span) (like_member_prop same_span held x.prop y.prop) (held x.obj.node y.obj.node)
  of_member x _ l r h k = refl

  of_callee : (f g : Callee Held) (l r : Held) → rest_of_callee f ≡ Some l → rest_of_callee g ≡ Some r → held l r ≡ like_callee same_span held f g
  of_callee (v_callee.Expr f) (v_callee.Expr g) l r h k = parts f.node g.node l r h k
  of_callee (v_callee.Expr f) (v_callee.Super g) l r h k = no (ap is_some k)
  of_callee (v_callee.Expr f) (v_callee.Import g) l r h k = no (ap is_some k)
  of_callee (v_callee.Super f) g l r h k = no (ap is_some h)
  of_callee (v_callee.Import f) g l r h k = no (ap is_some h)

  of_call : (x : CallExpr Held) (y : Expr Held) (l r : Held) → rest_of_callee x.callee ≡ Some l → rest_of_expr y ≡ Some r
      → (like_exprs same_span held (v_expr.Call x) y && held l r) ≡ like_expr same_span held (v_expr.Call x) y
  of_call x (v_expr.Call y) l r h k =
      (λ i. like_calls same_span held x y && of_callee x.callee y.callee l r h k i)
      ∙ last_of_three (same_span x.span y.span) (pointwise (like_expr_or_spread same_span held) x.args.items y.args.items) (like_callee same_span held x.callee y.callee)
  of_call x _ l r h k = refl

  of_tagged : (x : TaggedTpl Held) (y : Expr Held) (l r : Held) → Some x.tag.node ≡ Some l → rest_of_expr y ≡ Some r
      → (like_exprs same_span held (v_expr.TaggedTpl x) y && held l r) ≡ like_expr same_span held (v_expr.TaggedTpl x) y
  of_tagged x (v_expr.TaggedTpl y) l r h k =
      (λ i. like_tagged same_span held x y && parts x.tag.node y.tag.node l r h k i)
      ∙ last_of_three (same_span x.span y.span) (like_tpl same_span held x.tpl.value y.tpl.value) (held x.tag.node y.tag.node)
  of_tagged x _ l r h k = refl

  of_base : (x y : OptChainBase Held) (l r : Held) → Some (rest_of_base x) ≡ Some l → Some (rest_of_base y) ≡ Some r
      → (like_bases same_span held x y && held l r) ≡ like_opt_chain_base same_span held x y
  of_base (v_opt_chain_base.Member x) (v_opt_chain_base.Member y) l r h k =
      (λ i. like_members same_span held x y && parts x.obj.node y.obj.node l r h k i)
      ∙ last_of_three (same_span x.span y.span) (like_member_prop same_span held x.prop y.prop) (held x.obj.node y.obj.node)
  of_base (v_opt_chain_base.Call x) (v_opt_chain_base.Call y) l r h k =
      (λ i. like_opt_calls same_span held x y && parts x.callee.node y.callee.node l r h k i)
      ∙ last_of_three (same_span x.span y.span) (pointwise (like_expr_or_spread same_span held) x.args.items y.args.items) (held x.callee.node y.callee.node)
  of_base _ _ l r h k = refl

  of_opt_chain : (x : OptChainExpr Held) (y : Expr Held) (l r : Held) → Some (rest_of_base x.base.value) ≡ Some l → rest_of_expr y ≡ Some r
      → (like_exprs same_span held (v_expr.OptChain x) y && held l r) ≡ like_expr same_span held (v_expr.OptChain x) y
  of_opt_chain x (v_expr.OptChain y) l r h k =
      last_of_last (same_span x.span y.span) (like_flag x.optional y.optional) (like_bases same_span held x.base.value y.base.value) (held l r)
      (like_opt_chain_base same_span held x.base.value y.base.value) (of_base x.base.value y.base.value l r h k)
  of_opt_chain x _ l r h k = refl

  of_expr : (x y : Expr Held) (l r : Held) → rest_of_expr x ≡ Some l → rest_of_expr y ≡ Some r
      → (like_exprs same_span held x y && held l r) ≡ like_expr same_span held x y
  of_expr (v_expr.Bin x) y l r h k = of_bin x y l r h k
  of_expr (v_expr.Member x) y l r h k = of_member x y l r h k
  of_expr (v_expr.Call x) y l r h k = of_call x y l r h k
  of_expr (v_expr.TaggedTpl x) y l r h k = of_tagged x y l r h k
  of_expr (v_expr.OptChain x) y l r h k = of_opt_chain x y l r h k
  of_expr _ y l r h k = no (ap is_some h)

  of_else : (x y : Option (StmtBox Held)) (l r : Held) → rest_of_else x ≡ Some l → rest_of_else y ≡ Some r
      → held l r ≡ option_eq (λ a b. held a.node b.node) x y
  of_else (Some x) (Some y) l r h k = parts x.node y.node l r h k
  of_else (Some x) None l r h k = no (ap is_some k)
  of_else None y l r h k = no (ap is_some h)

  of_if : (x : IfStmt Held) (y : Stmt Held) (l r : Held) → rest_of_else x.alt ≡ Some l → rest_of_stmt y ≡ Some r
      → (like_stmts same_span held (v_stmt.If x) y && held l r) ≡ like_stmt same_span held (v_stmt.If x) y
  of_if x (v_stmt.If y) l r h k =
      (λ i. like_ifs same_span held x y && of_else x.alt y.alt l r h k i)
      ∙ in_order (same_span x.span y.span) (held x.test.node y.test.node) (held x.cons.node y.cons.node) (option_eq (λ a b. held a.node b.node) x.alt y.alt)
  of_if x _ l r h k = refl

  of_stmt : (x y : Stmt Held) (l r : Held) → rest_of_stmt x ≡ Some l → rest_of_stmt y ≡ Some r
      → (like_stmts same_span held x y && held l r) ≡ like_stmt same_span held x y
  of_stmt (v_stmt.If x) y l r h k = of_if x y l r h k
  of_stmt _ y l r h k = no (ap is_some h)

of_any : (x y : Any) (l r : Held) → rest_of_any x ≡ Some l → rest_of_any y ≡ Some r
    → (like_links x y && like_held l r) ≡ like_held (view_any x) (view_any y)
of_any (v_any.Expr x) (v_any.Expr y) l r h k = of_expr any_span like_held x.value y.value l r h k ∙ alike_expr (λ _. no_span) x.value y.value
of_any (v_any.Expr x) (v_any.Stmt y) l r h k = sym (expr_stmt x.value y.value)
of_any (v_any.Stmt x) (v_any.Stmt y) l r h k = of_stmt any_span like_held x.value y.value l r h k ∙ alike_stmt (λ _. no_span) x.value y.value
of_any (v_any.Stmt x) (v_any.Expr y) l r h k = sym (stmt_expr x.value y.value)
of_any (v_any.Expr x) (v_any.Pat y) l r h k = no (ap is_some k)
of_any (v_any.Expr x) (v_any.Stmts y) l r h k = no (ap is_some k)
of_any (v_any.Stmt x) (v_any.Pat y) l r h k = no (ap is_some k)
of_any (v_any.Stmt x) (v_any.Stmts y) l r h k = no (ap is_some k)
of_any (v_any.Pat x) y l r h k = no (ap is_some h)
of_any (v_any.Stmts x) y l r h k = no (ap is_some h)

-- two nodes that hold links are alike where the links are, and the parts on which they go on
pub linked : (x y : Any) (s t l r : Held) → view_any x ≡ s → view_any y ≡ t → rest_of_any x ≡ Some l → rest_of_any y ≡ Some r
    → (like_links x y && like_held l r) ≡ like_held s t
linked x y s t l r p q h k = of_any x y l r h k ∙ (λ i. like_held (p i) (q i))

pub go_on : (x y : Any) (s t l r : Held) → view_any x ≡ s → view_any y ≡ t → rest_of_any x ≡ Some l → rest_of_any y ≡ Some r
    → like_links x y ≡ true → like_held l r ≡ like_held s t
go_on x y s t l r p q h k a = sym (λ i. a i && like_held l r) ∙ linked x y s t l r p q h k

pub differ : (x y : Any) (s t l r : Held) → view_any x ≡ s → view_any y ≡ t → rest_of_any x ≡ Some l → rest_of_any y ≡ Some r
    → like_links x y ≡ false → false ≡ like_held s t
differ x y s t l r p q h k a = sym (λ i. a i && like_held l r) ∙ linked x y s t l r p q h k
