-- What is never left out, and what a node stands for.
use Rattle.std.specs.Prelude.{map}
use Rattle.std.specs.Cmp.{IsPartialEquivalence}
use Rattle.swc_ecma_parser_model.specs.Tree.{listed}
use Rattle.swc_ecma_parser_model.specs.Held.{Held, There, same_held, same_held_laws}
use Rattle.swc_ecma_parser_model.specs.Kinds.{is_expr}
use Rattle.swc_ecma_parser_ast.specs.Parts.{there_marked}
use Rattle.swc_ecma_parser_ast.specs.View.{view_block_stmt, view_catch_clause, view_expr, view_expr_or_spread, view_module_export_name, view_object_lit, view_pat, view_stmt, view_var_decl_or_expr}
use Rattle.swc_ecma_parser_ast.specs.declared.node.Any.{Any}
use Rattle.swc_ecma_parser_ast.specs.declared.node.Any.TheVariants as a
use Rattle.swc_ecma_parser_ast.specs.declared.stmt.BlockStmt.{BlockStmt}
use Rattle.swc_ecma_parser_ast.specs.declared.branch.CatchClause.{CatchClause}
use Rattle.swc_ecma_parser_ast.specs.declared.decl.Decl.TheVariants as v_decl
use Rattle.swc_ecma_parser_ast.specs.declared.expr.Expr.{Expr}
use Rattle.swc_ecma_parser_ast.specs.declared.expr.Expr.TheVariants as v_expr
use Rattle.swc_ecma_parser_ast.specs.declared.call.ExprOrSpread.{ExprOrSpread}
use Rattle.swc_ecma_parser_ast.specs.declared.expr.Lit.TheVariants as v_lit
use Rattle.swc_ecma_parser_ast.specs.declared.imports.ModuleExportName.{ModuleExportName}
use Rattle.swc_ecma_parser_ast.specs.declared.imports.ModuleExportName.TheVariants as v_module_export_name
use Rattle.swc_ecma_parser_ast.specs.declared.object.ObjectLit.{ObjectLit}
use Rattle.swc_ecma_parser_ast.specs.declared.pat.Pat.{Pat}
use Rattle.swc_ecma_parser_ast.specs.declared.pat.Pat.TheVariants as v_pat
use Rattle.swc_ecma_parser_ast.specs.declared.stmt.Stmt.{Stmt}
use Rattle.swc_ecma_parser_ast.specs.declared.stmt.Stmt.TheVariants as v_stmt
use Rattle.swc_ecma_parser_ast.specs.declared.loops.VarDeclOrExpr.{VarDeclOrExpr}
use Rattle.swc_ecma_parser_ast.specs.declared.loops.VarDeclOrExpr.TheVariants as v_var_decl_or_expr

pub there_block_stmt : (x : BlockStmt Held) → There (view_block_stmt x)
there_block_stmt x = tt

pub there_catch_clause : (x : CatchClause Held) → There (view_catch_clause x)
there_catch_clause x = tt

pub there_expr : (x : Expr Held) → There (view_expr x)
there_expr (v_expr.This x) = tt
there_expr (v_expr.Array x) = tt
there_expr (v_expr.Object x) = tt
there_expr (v_expr.Fn x) = tt
there_expr (v_expr.Unary x) = tt
there_expr (v_expr.Update x) = tt
there_expr (v_expr.Bin x) = tt
there_expr (v_expr.Assign x) = tt
there_expr (v_expr.Member x) = tt
there_expr (v_expr.SuperProp x) = tt
there_expr (v_expr.Cond x) = tt
there_expr (v_expr.Call x) = tt
there_expr (v_expr.New x) = tt
there_expr (v_expr.Seq x) = tt
there_expr (v_expr.Ident x) = tt
there_expr (v_expr.Lit (v_lit.Str x)) = tt
there_expr (v_expr.Lit (v_lit.Bool x)) = tt
there_expr (v_expr.Lit (v_lit.Null x)) = tt
there_expr (v_expr.Lit (v_lit.Num x)) = tt
there_expr (v_expr.Lit (v_lit.BigInt x)) = tt
there_expr (v_expr.Lit (v_lit.Regex x)) = tt
there_expr (v_expr.Arrow x) = tt
there_expr (v_expr.Class x) = tt
there_expr (v_expr.Yield x) = tt
there_expr (v_expr.MetaProp x) = tt
there_expr (v_expr.Await x) = tt
there_expr (v_expr.Paren x) = tt
there_expr (v_expr.Tpl x) = tt
there_expr (v_expr.TaggedTpl x) = tt
there_expr (v_expr.OptChain x) = tt
there_expr (v_expr.PrivateName x) = tt
there_expr (v_expr.Invalid x) = tt

pub there_expr_or_spread : (x : ExprOrSpread Held) → There (view_expr_or_spread x)
there_expr_or_spread x = tt

pub there_module_export_name : (x : ModuleExportName) → There (view_module_export_name x)
there_module_export_name (v_module_export_name.Ident x) = tt
there_module_export_name (v_module_export_name.Str x) = tt

pub there_object_lit : (x : ObjectLit Held) → There (view_object_lit x)
there_object_lit x = tt

pub there_pat : (x : Pat Held) → There (view_pat x)
there_pat (v_pat.Ident x) = tt
there_pat (v_pat.Array x) = tt
there_pat (v_pat.Rest x) = tt
there_pat (v_pat.Object x) = tt
there_pat (v_pat.Assign x) = tt
there_pat (v_pat.Invalid x) = tt
there_pat (v_pat.Expr x) = tt

pub there_stmt : (x : Stmt Held) → There (view_stmt x)
there_stmt (v_stmt.Block x) = tt
there_stmt (v_stmt.Empty x) = tt
there_stmt (v_stmt.Debugger x) = tt
there_stmt (v_stmt.With x) = tt
there_stmt (v_stmt.Return x) = tt
there_stmt (v_stmt.Labeled x) = tt
there_stmt (v_stmt.Break x) = tt
there_stmt (v_stmt.Continue x) = tt
there_stmt (v_stmt.If x) = tt
there_stmt (v_stmt.Switch x) = tt
there_stmt (v_stmt.Throw x) = tt
there_stmt (v_stmt.Try x) = tt
there_stmt (v_stmt.While x) = tt
there_stmt (v_stmt.DoWhile x) = tt
there_stmt (v_stmt.For x) = tt
there_stmt (v_stmt.ForIn x) = tt
there_stmt (v_stmt.ForOf x) = tt
there_stmt (v_stmt.Decl (v_decl.Class x)) = tt
there_stmt (v_stmt.Decl (v_decl.Fn x)) = tt
there_stmt (v_stmt.Decl (v_decl.Var x)) = tt
there_stmt (v_stmt.Decl (v_decl.Using x)) = tt
there_stmt (v_stmt.Expr x) = tt

pub there_var_decl_or_expr : (x : VarDeclOrExpr Held) → There (view_var_decl_or_expr x)
there_var_decl_or_expr (v_var_decl_or_expr.VarDecl x) = tt
there_var_decl_or_expr (v_var_decl_or_expr.Expr x) = there_marked (is_expr x.node.tree) x.node.tree x.node.there

abbrev pub view_any : Any → Held
view_any (a.Expr x) = record { tree = view_expr x.value; there = there_expr x.value }
view_any (a.Stmts x) = record { tree = listed (map view_stmt x.value.items); there = tt }
view_any (a.Stmt x) = record { tree = view_stmt x.value; there = there_stmt x.value }
view_any (a.Pat x) = record { tree = view_pat x.value; there = there_pat x.value }

-- nodes are equal when their codes are
pub same_any_laws : IsPartialEquivalence (λ x y. same_held (view_any x) (view_any y))
same_any_laws = record { symm = λ x y. same_held_laws.symm (view_any x) (view_any y); trans = λ x y z. same_held_laws.trans (view_any x) (view_any y) (view_any z) }
