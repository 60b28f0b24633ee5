-- A node of one kind is none of another.
use Rattle.std.proofs.Common.{◌≡◌, refl, true, false, ◌∙◌}
use Rattle.swc_ecma_parser_model.specs.Tree.{Trees, list}
use Rattle.swc_ecma_parser_model.specs.Kinds.{is_expr, is_stmt, is_pat}
use Rattle.swc_ecma_parser_model.specs.Same.{same, same_laws}
use Rattle.swc_ecma_parser_model.specs.Held.{Held}
use Rattle.swc_ecma_parser_ast.specs.View.{view_expr, view_stmt, view_pat}
use Rattle.swc_ecma_parser_ast.specs.Parts.{marked, as_expr}
use Rattle.swc_ecma_parser_ast.specs.Differ.{differ}
use Rattle.swc_ecma_parser_ast.specs.declared.decl.Decl.TheVariants as v_decl
use Rattle.swc_ecma_parser_ast.specs.declared.expr.Expr.{Expr}
use Rattle.swc_ecma_parser_ast.specs.declared.expr.Expr.TheVariants as v_expr
use Rattle.swc_ecma_parser_ast.specs.declared.expr.Lit.TheVariants as v_lit
use Rattle.swc_ecma_parser_ast.specs.declared.pat.Pat.{Pat}
use Rattle.swc_ecma_parser_ast.specs.declared.pat.Pat.TheVariants as v_pat
use Rattle.swc_ecma_parser_ast.specs.declared.stmt.Stmt.{Stmt}
use Rattle.swc_ecma_parser_ast.specs.declared.stmt.Stmt.TheVariants as v_stmt

-- each is of its kind
pub kind_expr : (x : Expr Held) → is_expr (view_expr x) ≡ true
kind_expr (v_expr.This _) = refl
kind_expr (v_expr.Array _) = refl
kind_expr (v_expr.Object _) = refl
kind_expr (v_expr.Fn _) = refl
kind_expr (v_expr.Unary _) = refl
kind_expr (v_expr.Update _) = refl
kind_expr (v_expr.Bin _) = refl
kind_expr (v_expr.Assign _) = refl
kind_expr (v_expr.Member _) = refl
kind_expr (v_expr.SuperProp _) = refl
kind_expr (v_expr.Cond _) = refl
kind_expr (v_expr.Call _) = refl
kind_expr (v_expr.New _) = refl
kind_expr (v_expr.Seq _) = refl
kind_expr (v_expr.Ident _) = refl
kind_expr (v_expr.Lit (v_lit.Str _)) = refl
kind_expr (v_expr.Lit (v_lit.Bool _)) = refl
kind_expr (v_expr.Lit (v_lit.Null _)) = refl
kind_expr (v_expr.Lit (v_lit.Num _)) = refl
kind_expr (v_expr.Lit (v_lit.BigInt _)) = refl
kind_expr (v_expr.Lit (v_lit.Regex _)) = refl
kind_expr (v_expr.Arrow _) = refl
kind_expr (v_expr.Class _) = refl
kind_expr (v_expr.Yield _) = refl
kind_expr (v_expr.MetaProp _) = refl
kind_expr (v_expr.Await _) = refl
kind_expr (v_expr.Paren _) = refl
kind_expr (v_expr.Tpl _) = refl
kind_expr (v_expr.TaggedTpl _) = refl
kind_expr (v_expr.OptChain _) = refl
kind_expr (v_expr.PrivateName _) = refl
kind_expr (v_expr.Invalid _) = refl

-- each is of its kind
pub kind_stmt : (x : Stmt Held) → is_stmt (view_stmt x) ≡ true
kind_stmt (v_stmt.Block _) = refl
kind_stmt (v_stmt.Empty _) = refl
kind_stmt (v_stmt.Debugger _) = refl
kind_stmt (v_stmt.With _) = refl
kind_stmt (v_stmt.Return _) = refl
kind_stmt (v_stmt.Labeled _) = refl
kind_stmt (v_stmt.Break _) = refl
kind_stmt (v_stmt.Continue _) = refl
kind_stmt (v_stmt.If _) = refl
kind_stmt (v_stmt.Switch _) = refl
kind_stmt (v_stmt.Throw _) = refl
kind_stmt (v_stmt.Try _) = refl
kind_stmt (v_stmt.While _) = refl
kind_stmt (v_stmt.DoWhile _) = refl
kind_stmt (v_stmt.For _) = refl
kind_stmt (v_stmt.ForIn _) = refl
kind_stmt (v_stmt.ForOf _) = refl
kind_stmt (v_stmt.Decl (v_decl.Class _)) = refl
kind_stmt (v_stmt.Decl (v_decl.Fn _)) = refl
kind_stmt (v_stmt.Decl (v_decl.Var _)) = refl
kind_stmt (v_stmt.Decl (v_decl.Using _)) = refl
kind_stmt (v_stmt.Expr _) = refl

-- each is of its kind
pub kind_pat : (x : Pat Held) → is_pat (view_pat x) ≡ true
kind_pat (v_pat.Ident _) = refl
kind_pat (v_pat.Array _) = refl
kind_pat (v_pat.Rest _) = refl
kind_pat (v_pat.Object _) = refl
kind_pat (v_pat.Assign _) = refl
kind_pat (v_pat.Invalid _) = refl
kind_pat (v_pat.Expr _) = refl

pub not_stmt_expr : (x : Expr Held) → is_stmt (view_expr x) ≡ false
not_stmt_expr (v_expr.This _) = refl
not_stmt_expr (v_expr.Array _) = refl
not_stmt_expr (v_expr.Object _) = refl
not_stmt_expr (v_expr.Fn _) = refl
not_stmt_expr (v_expr.Unary _) = refl
not_stmt_expr (v_expr.Update _) = refl
not_stmt_expr (v_expr.Bin _) = refl
not_stmt_expr (v_expr.Assign _) = refl
not_stmt_expr (v_expr.Member _) = refl
not_stmt_expr (v_expr.SuperProp _) = refl
not_stmt_expr (v_expr.Cond _) = refl
not_stmt_expr (v_expr.Call _) = refl
not_stmt_expr (v_expr.New _) = refl
not_stmt_expr (v_expr.Seq _) = refl
not_stmt_expr (v_expr.Ident _) = refl
not_stmt_expr (v_expr.Lit (v_lit.Str _)) = refl
not_stmt_expr (v_expr.Lit (v_lit.Bool _)) = refl
not_stmt_expr (v_expr.Lit (v_lit.Null _)) = refl
not_stmt_expr (v_expr.Lit (v_lit.Num _)) = refl
not_stmt_expr (v_expr.Lit (v_lit.BigInt _)) = refl
not_stmt_expr (v_expr.Lit (v_lit.Regex _)) = refl
not_stmt_expr (v_expr.Arrow _) = refl
not_stmt_expr (v_expr.Class _) = refl
not_stmt_expr (v_expr.Yield _) = refl
not_stmt_expr (v_expr.MetaProp _) = refl
not_stmt_expr (v_expr.Await _) = refl
not_stmt_expr (v_expr.Paren _) = refl
not_stmt_expr (v_expr.Tpl _) = refl
not_stmt_expr (v_expr.TaggedTpl _) = refl
not_stmt_expr (v_expr.OptChain _) = refl
not_stmt_expr (v_expr.PrivateName _) = refl
not_stmt_expr (v_expr.Invalid _) = refl

pub stmt_expr : (x : Stmt Held) (y : Expr Held) → same (view_stmt x) (view_expr y) ≡ false
stmt_expr x y = differ is_stmt (view_stmt x) (view_expr y) (kind_stmt x) (not_stmt_expr y)

pub not_pat_expr : (x : Expr Held) → is_pat (view_expr x) ≡ false
not_pat_expr (v_expr.This _) = refl
not_pat_expr (v_expr.Array _) = refl
not_pat_expr (v_expr.Object _) = refl
not_pat_expr (v_expr.Fn _) = refl
not_pat_expr (v_expr.Unary _) = refl
not_pat_expr (v_expr.Update _) = refl
not_pat_expr (v_expr.Bin _) = refl
not_pat_expr (v_expr.Assign _) = refl
not_pat_expr (v_expr.Member _) = refl
not_pat_expr (v_expr.SuperProp _) = refl
not_pat_expr (v_expr.Cond _) = refl
not_pat_expr (v_expr.Call _) = refl
not_pat_expr (v_expr.New _) = refl
not_pat_expr (v_expr.Seq _) = refl
not_pat_expr (v_expr.Ident _) = refl
not_pat_expr (v_expr.Lit (v_lit.Str _)) = refl
not_pat_expr (v_expr.Lit (v_lit.Bool _)) = refl
not_pat_expr (v_expr.Lit (v_lit.Null _)) = refl
not_pat_expr (v_expr.Lit (v_lit.Num _)) = refl
not_pat_expr (v_expr.Lit (v_lit.BigInt _)) = refl
not_pat_expr (v_expr.Lit (v_lit.Regex _)) = refl
not_pat_expr (v_expr.Arrow _) = refl
not_pat_expr (v_expr.Class _) = refl
not_pat_expr (v_expr.Yield _) = refl
not_pat_expr (v_expr.MetaProp _) = refl
not_pat_expr (v_expr.Await _) = refl
not_pat_expr (v_expr.Paren _) = refl
not_pat_expr (v_expr.Tpl _) = refl
not_pat_expr (v_expr.TaggedTpl _) = refl
not_pat_expr (v_expr.OptChain _) = refl
not_pat_expr (v_expr.PrivateName _) = refl
not_pat_expr (v_expr.Invalid _) = refl

pub pat_expr : (x : Pat Held) (y : Expr Held) → same (view_pat x) (view_expr y) ≡ false
pat_expr x y = differ is_pat (view_pat x) (view_expr y) (kind_pat x) (not_pat_expr y)

pub not_expr_stmt : (x : Stmt Held) → is_expr (view_stmt x) ≡ false
not_expr_stmt (v_stmt.Block _) = refl
not_expr_stmt (v_stmt.Empty _) = refl
not_expr_stmt (v_stmt.Debugger _) = refl
not_expr_stmt (v_stmt.With _) = refl
not_expr_stmt (v_stmt.Return _) = refl
not_expr_stmt (v_stmt.Labeled _) = refl
not_expr_stmt (v_stmt.Break _) = refl
not_expr_stmt (v_stmt.Continue _) = refl
not_expr_stmt (v_stmt.If _) = refl
not_expr_stmt (v_stmt.Switch _) = refl
not_expr_stmt (v_stmt.Throw _) = refl
not_expr_stmt (v_stmt.Try _) = refl
not_expr_stmt (v_stmt.While _) = refl
not_expr_stmt (v_stmt.DoWhile _) = refl
not_expr_stmt (v_stmt.For _) = refl
not_expr_stmt (v_stmt.ForIn _) = refl
not_expr_stmt (v_stmt.ForOf _) = refl
not_expr_stmt (v_stmt.Decl (v_decl.Class _)) = refl
not_expr_stmt (v_stmt.Decl (v_decl.Fn _)) = refl
not_expr_stmt (v_stmt.Decl (v_decl.Var _)) = refl
not_expr_stmt (v_stmt.Decl (v_decl.Using _)) = refl
not_expr_stmt (v_stmt.Expr _) = refl

pub expr_stmt : (x : Expr Held) (y : Stmt Held) → same (view_expr x) (view_stmt y) ≡ false
expr_stmt x y = differ is_expr (view_expr x) (view_stmt y) (kind_expr x) (not_expr_stmt y)

pub not_pat_stmt : (x : Stmt Held) → is_pat (view_stmt x) ≡ false
not_pat_stmt (v_stmt.Block _) = refl
not_pat_stmt (v_stmt.Empty _) = refl
not_pat_stmt (v_stmt.Debugger _) = refl
not_pat_stmt (v_stmt.With _) = refl
not_pat_stmt (v_stmt.Return _) = refl
not_pat_stmt (v_stmt.Labeled _) = refl
not_pat_stmt (v_stmt.Break _) = refl
not_pat_stmt (v_stmt.Continue _) = refl
not_pat_stmt (v_stmt.If _) = refl
not_pat_stmt (v_stmt.Switch _) = refl
not_pat_stmt (v_stmt.Throw _) = refl
not_pat_stmt (v_stmt.Try _) = refl
not_pat_stmt (v_stmt.While _) = refl
not_pat_stmt (v_stmt.DoWhile _) = refl
not_pat_stmt (v_stmt.For _) = refl
not_pat_stmt (v_stmt.ForIn _) = refl
not_pat_stmt (v_stmt.ForOf _) = refl
not_pat_stmt (v_stmt.Decl (v_decl.Class _)) = refl
not_pat_stmt (v_stmt.Decl (v_decl.Fn _)) = refl
not_pat_stmt (v_stmt.Decl (v_decl.Var _)) = refl
not_pat_stmt (v_stmt.Decl (v_decl.Using _)) = refl
not_pat_stmt (v_stmt.Expr _) = refl

pub pat_stmt : (x : Pat Held) (y : Stmt Held) → same (view_pat x) (view_stmt y) ≡ false
pat_stmt x y = differ is_pat (view_pat x) (view_stmt y) (kind_pat x) (not_pat_stmt y)

pub not_expr_pat : (x : Pat Held) → is_expr (view_pat x) ≡ false
not_expr_pat (v_pat.Ident _) = refl
not_expr_pat (v_pat.Array _) = refl
not_expr_pat (v_pat.Rest _) = refl
not_expr_pat (v_pat.Object _) = refl
not_expr_pat (v_pat.Assign _) = refl
not_expr_pat (v_pat.Invalid _) = refl
not_expr_pat (v_pat.Expr _) = refl

pub expr_pat : (x : Expr Held) (y : Pat Held) → same (view_expr x) (view_pat y) ≡ false
expr_pat x y = differ is_expr (view_expr x) (view_pat y) (kind_expr x) (not_expr_pat y)

pub not_stmt_pat : (x : Pat Held) → is_stmt (view_pat x) ≡ false
not_stmt_pat (v_pat.Ident _) = refl
not_stmt_pat (v_pat.Array _) = refl
not_stmt_pat (v_pat.Rest _) = refl
not_stmt_pat (v_pat.Object _) = refl
not_stmt_pat (v_pat.Assign _) = refl
not_stmt_pat (v_pat.Invalid _) = refl
not_stmt_pat (v_pat.Expr _) = refl

pub stmt_pat : (x : Stmt Held) (y : Pat Held) → same (view_stmt x) (view_pat y) ≡ false
stmt_pat x y = differ is_stmt (view_stmt x) (view_pat y) (kind_stmt x) (not_stmt_pat y)

pub expr_list : (x : Expr Held) (ts : Trees) → same (view_expr x) (list ts) ≡ false
expr_list x ts = differ is_expr (view_expr x) (list ts) (kind_expr x) refl

pub list_expr : (ts : Trees) (x : Expr Held) → same (list ts) (view_expr x) ≡ false
list_expr ts x = same_laws.symm (list ts) (view_expr x) ∙ expr_list x ts

pub stmt_list : (x : Stmt Held) (ts : Trees) → same (view_stmt x) (list ts) ≡ false
stmt_list x ts = differ is_stmt (view_stmt x) (list ts) (kind_stmt x) refl

pub list_stmt : (ts : Trees) (x : Stmt Held) → same (list ts) (view_stmt x) ≡ false
list_stmt ts x = same_laws.symm (list ts) (view_stmt x) ∙ stmt_list x ts

pub pat_list : (x : Pat Held) (ts : Trees) → same (view_pat x) (list ts) ≡ false
pat_list x ts = differ is_pat (view_pat x) (list ts) (kind_pat x) refl

pub list_pat : (ts : Trees) (x : Pat Held) → same (list ts) (view_pat x) ≡ false
list_pat ts x = same_laws.symm (list ts) (view_pat x) ∙ pat_list x ts

-- what stands for an expression is the expression
pub as_expr_view : (x : Expr Held) → as_expr (view_expr x) ≡ view_expr x
as_expr_view x = λ k. marked (kind_expr x k) (view_expr x)
