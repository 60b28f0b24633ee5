-- Links of chains: the part on which a chain goes on, and whether two links are alike but for that part.
use Rattle.std.specs.Prelude.{Bool, false, ◌&&◌, Option, Some, None}
use Rattle.std.specs.Cmp.Lexicographic.{pointwise}
use Rattle.swc_ecma_parser_model.specs.Leaf.{put_binary, put_bool}
use Rattle.swc_ecma_parser_model.specs.Held.{Held, same_held}
use Rattle.swc_ecma_parser_model.specs.Same.{alike}
use Rattle.swc_ecma_parser_ast.specs.Equal.{equal_span, equal_expr_or_spread, equal_member_prop, equal_tpl}
use Rattle.swc_ecma_parser_ast.specs.declared.branch.IfStmt.{IfStmt}
use Rattle.swc_ecma_parser_ast.specs.declared.call.CallExpr.{CallExpr}
use Rattle.swc_ecma_parser_ast.specs.declared.call.Callee.{Callee}
use Rattle.swc_ecma_parser_ast.specs.declared.call.Callee.TheVariants as v_callee
use Rattle.swc_ecma_parser_ast.specs.declared.call.MemberExpr.{MemberExpr}
use Rattle.swc_ecma_parser_ast.specs.declared.call.OptCall.{OptCall}
use Rattle.swc_ecma_parser_ast.specs.declared.call.OptChainBase.{OptChainBase}
use Rattle.swc_ecma_parser_ast.specs.declared.call.OptChainBase.TheVariants as v_opt_chain_base
use Rattle.swc_ecma_parser_ast.specs.declared.call.OptChainExpr.{OptChainExpr}
use Rattle.swc_ecma_parser_ast.specs.declared.expr.BinExpr.{BinExpr}
use Rattle.swc_ecma_parser_ast.specs.declared.expr.Expr.{Expr}
use Rattle.swc_ecma_parser_ast.specs.declared.expr.Expr.TheVariants as v_expr
use Rattle.swc_ecma_parser_ast.specs.declared.node.Any.{Any}
use Rattle.swc_ecma_parser_ast.specs.declared.node.Any.TheVariants as v_any
use Rattle.swc_ecma_parser_ast.specs.declared.node.StmtBox.{StmtBox}
use Rattle.swc_ecma_parser_ast.specs.declared.stmt.Stmt.{Stmt}
use Rattle.swc_ecma_parser_ast.specs.declared.stmt.Stmt.TheVariants as v_stmt
use Rattle.swc_ecma_parser_ast.specs.declared.template.TaggedTpl.{TaggedTpl}

abbrev pub rest_of_callee : {N : Type 0} → Callee N → Option N
rest_of_callee (v_callee.Expr x) = Some x.node
rest_of_callee _ = None

abbrev pub rest_of_base : {N : Type 0} → OptChainBase N → N
rest_of_base (v_opt_chain_base.Member x) = x.obj.node
rest_of_base (v_opt_chain_base.Call x) = x.callee.node

abbrev pub rest_of_expr : {N : Type 0} → Expr N → Option N
rest_of_expr (v_expr.Bin x) = Some x.left.node
rest_of_expr (v_expr.Member x) = Some x.obj.node
rest_of_expr (v_expr.Call x) = rest_of_callee x.callee
rest_of_expr (v_expr.TaggedTpl x) = Some x.tag.node
rest_of_expr (v_expr.OptChain x) = Some (rest_of_base x.base.value)
rest_of_expr _ = None

abbrev pub rest_of_else : {N : Type 0} → Option (StmtBox N) → Option N
rest_of_else (Some x) = Some x.node
rest_of_else None = None

abbrev pub rest_of_stmt : {N : Type 0} → Stmt N → Option N
rest_of_stmt (v_stmt.If x) = rest_of_else x.alt
rest_of_stmt _ = None

abbrev pub rest_of_any : Any → Option Held
rest_of_any (v_any.Expr x) = rest_of_expr x.value
rest_of_any (v_any.Stmt x) = rest_of_stmt x.value
rest_of_any _ = None

module _ {N : Type 0} (equal : N → N → Bool) where
  abbrev pub alike_bins : BinExpr N → BinExpr N → Bool
  alike_bins x y = equal_span x.span y.span && (alike (put_binary x.op) (put_binary y.op) && equal x.right.node y.right.node)

  abbrev pub alike_members : MemberExpr N → MemberExpr N → Bool
  alike_members x y = equal_span x.span y.span && equal_member_prop equal x.prop y.prop

  abbrev pub alike_calls : CallExpr N → CallExpr N → Bool
  alike_calls x y = equal_span x.span y.span && pointwise (equal_expr_or_spread equal) x.args.items y.args.items

  abbrev pub alike_tagged : TaggedTpl N → TaggedTpl N → Bool
  alike_tagged x y = equal_span x.span y.span && equal_tpl equal x.tpl.value y.tpl.value

  abbrev pub alike_opt_calls : OptCall N → OptCall N → Bool
  alike_opt_calls x y = equal_span x.span y.span && pointwise (equal_expr_or_spread equal) x.args.items y.args.items

  abbrev pub alike_bases : OptChainBase N → OptChainBase N → Bool
  alike_bases (v_opt_chain_base.Member x) (v_opt_chain_base.Member y) = alike_members x y
  alike_bases (v_opt_chain_base.Call x) (v_opt_chain_base.Call y) = alike_opt_calls x y
  alike_bases _ _ = false

  abbrev pub alike_opt_chains : OptChainExpr N → OptChainExpr N → Bool
  alike_opt_chains x y = equal_span x.span y.span && (alike (put_bool x.optional) (put_bool y.optional) && alike_bases x.base.value y.base.value)

  abbrev pub alike_ifs : IfStmt N → IfStmt N → Bool
  alike_ifs x y = equal_span x.span y.span && (equal x.test.node y.test.node && equal x.cons.node y.cons.node)

  abbrev pub alike_exprs : Expr N → Expr N → Bool
  alike_exprs (v_expr.Bin x) (v_expr.Bin y) = alike_bins x y
  alike_exprs (v_expr.Member x) (v_expr.Member y) = alike_members x y
  alike_exprs (v_expr.Call x) (v_expr.Call y) = alike_calls x y
  alike_exprs (v_expr.TaggedTpl x) (v_expr.TaggedTpl y) = alike_tagged x y
  alike_exprs (v_expr.OptChain x) (v_expr.OptChain y) = alike_opt_chains x y
  alike_exprs _ _ = false

  abbrev pub alike_stmts : Stmt N → Stmt N → Bool
  alike_stmts (v_stmt.If x) (v_stmt.If y) = alike_ifs x y
  alike_stmts _ _ = false

abbrev pub alike_links : Any → Any → Bool
alike_links (v_any.Expr x) (v_any.Expr y) = alike_exprs same_held x.value y.value
alike_links (v_any.Stmt x) (v_any.Stmt y) = alike_stmts same_held x.value y.value
alike_links _ _ = false
