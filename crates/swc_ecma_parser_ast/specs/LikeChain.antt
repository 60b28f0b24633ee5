-- Whether two links of chains are alike but for the parts on which they go on, given a comparison of spans and one of nodes.
use Rattle.std.specs.Prelude.{Bool, false, ◌&&◌}
use Rattle.std.specs.Cmp.Lexicographic.{pointwise}
use Rattle.swc_ecma_parser_common.specs.declared.span.Span.{Span}
use Rattle.swc_ecma_parser_model.specs.Leaf.{put_binary}
use Rattle.swc_ecma_parser_model.specs.Same.{alike}
use Rattle.swc_ecma_parser_ast.specs.Like.{any_span, like_expr_or_spread, like_flag, like_member_prop, like_tpl}
use Rattle.swc_ecma_parser_ast.specs.Unspanned.{like_held}
use Rattle.swc_ecma_parser_ast.specs.declared.branch.IfStmt.{IfStmt}
use Rattle.swc_ecma_parser_ast.specs.declared.call.CallExpr.{CallExpr}
use Rattle.swc_ecma_parser_ast.specs.declared.call.MemberExpr.{MemberExpr}
use Rattle.swc_ecma_parser_ast.specs.declared.call.OptCall.{OptCall}
use Rattle.swc_ecma_parser_ast.specs.declared.call.OptChainBase.{OptChainBase}
use Rattle.swc_ecma_parser_ast.specs.declared.call.OptChainBase.TheVariants as v_opt_chain_base
use Rattle.swc_ecma_parser_ast.specs.declared.call.OptChainExpr.{OptChainExpr}
use Rattle.swc_ecma_parser_ast.specs.declared.expr.BinExpr.{BinExpr}
use Rattle.swc_ecma_parser_ast.specs.declared.expr.Expr.{Expr}
use Rattle.swc_ecma_parser_ast.specs.declared.expr.Expr.TheVariants as v_expr
use Rattle.swc_ecma_parser_ast.specs.declared.node.Any.{Any}
use Rattle.swc_ecma_parser_ast.specs.declared.node.Any.TheVariants as v_any
use Rattle.swc_ecma_parser_ast.specs.declared.stmt.Stmt.{Stmt}
use Rattle.swc_ecma_parser_ast.specs.declared.stmt.Stmt.TheVariants as v_stmt
use Rattle.swc_ecma_parser_ast.specs.declared.template.TaggedTpl.{TaggedTpl}

module _ (same_span : Span → Span → Bool) {N : Type 0} (like : N → N → Bool) where
  abbrev pub like_bins : BinExpr N → BinExpr N → Bool
  like_bins x y = same_span x.span y.span && (alike (put_binary x.op) (put_binary y.op) && like x.right.node y.right.node)

  abbrev pub like_members : MemberExpr N → MemberExpr N → Bool
  like_members x y = same_span x.span y.span && like_member_prop same_span like x.prop y.prop

  abbrev pub like_calls : CallExpr N → CallExpr N → Bool
  like_calls x y = same_span x.span y.span && pointwise (like_expr_or_spread same_span like) x.args.items y.args.items

  abbrev pub like_tagged : TaggedTpl N → TaggedTpl N → Bool
  like_tagged x y = same_span x.span y.span && like_tpl same_span like x.tpl.value y.tpl.value

  abbrev pub like_opt_calls : OptCall N → OptCall N → Bool
  like_opt_calls x y = same_span x.span y.span && pointwise (like_expr_or_spread same_span like) x.args.items y.args.items

  abbrev pub like_bases : OptChainBase N → OptChainBase N → Bool
  like_bases (v_opt_chain_base.Member x) (v_opt_chain_base.Member y) = like_members x y
  like_bases (v_opt_chain_base.Call x) (v_opt_chain_base.Call y) = like_opt_calls x y
  like_bases _ _ = false

  abbrev pub like_opt_chains : OptChainExpr N → OptChainExpr N → Bool
  like_opt_chains x y = same_span x.span y.span && (like_flag x.optional y.optional && like_bases x.base.value y.base.value)

  abbrev pub like_ifs : IfStmt N → IfStmt N → Bool
  like_ifs x y = same_span x.span y.span && (like x.test.node y.test.node && like x.cons.node y.cons.node)

  abbrev pub like_exprs : Expr N → Expr N → Bool
  like_exprs (v_expr.Bin x) (v_expr.Bin y) = like_bins x y
  like_exprs (v_expr.Member x) (v_expr.Member y) = like_members x y
  like_exprs (v_expr.Call x) (v_expr.Call y) = like_calls x y
  like_exprs (v_expr.TaggedTpl x) (v_expr.TaggedTpl y) = like_tagged x y
  like_exprs (v_expr.OptChain x) (v_expr.OptChain y) = like_opt_chains x y
  like_exprs _ _ = false

  abbrev pub like_stmts : Stmt N → Stmt N → Bool
  like_stmts (v_stmt.If x) (v_stmt.If y) = like_ifs x y
  like_stmts _ _ = false

abbrev pub like_links : Any → Any → Bool
like_links (v_any.Expr x) (v_any.Expr y) = like_exprs any_span like_held x.value y.value
like_links (v_any.Stmt x) (v_any.Stmt y) = like_stmts any_span like_held x.value y.value
like_links _ _ = false
