-- What kind of tree a value of the tree types stands for.
use Rattle.std.proofs.Common.{◌≡◌, Bool, true, false, refl, ap, true≢false}
use Rattle.swc_ecma_parser_common.specs.declared.span.Span.{Span}
use Rattle.swc_ecma_parser_model.specs.Tree.{Tree, Text, ident, member, super_prop, paren, block, arrow}
use Rattle.swc_ecma_parser_model.specs.Directive.{is_string_statement, is_use_strict}
use Rattle.swc_ecma_parser_model.specs.Forms.{is_ident_named, is_simple_target}
use Rattle.swc_ecma_parser_model.specs.Held.{Held}
use Rattle.swc_ecma_parser_model.specs.Kinds.{is_expr, is_module_decl}
use Rattle.swc_ecma_parser_model.specs.Within.{is_block_arrow}
use Rattle.swc_ecma_parser_ast.specs.Parts.{marked, as_expr}
use Rattle.swc_ecma_parser_ast.specs.View.{view_stmt, view_module_decl}
use Rattle.swc_ecma_parser_ast.specs.declared.decl.Decl.TheVariants as v_decl
use Rattle.swc_ecma_parser_ast.specs.declared.program.ModuleDecl.{ModuleDecl}
use Rattle.swc_ecma_parser_ast.specs.declared.program.ModuleDecl.TheVariants as v_module_decl
use Rattle.swc_ecma_parser_ast.specs.declared.stmt.Stmt.{Stmt}
use Rattle.swc_ecma_parser_ast.specs.declared.stmt.Stmt.TheVariants as v_stmt

pub as_expr_not_name : (t : Tree) (name : Text) → is_expr t ≡ false → is_ident_named name (as_expr t) ≡ false
as_expr_not_name t name h = ap (λ b. is_ident_named name (marked b t)) h

pub as_expr_no_block : (t : Tree) (s : Span) (params : Tree) (is_async : Bool) → is_block_arrow (arrow s params (as_expr t) is_async) ≡ false
as_expr_no_block (block _ _) s params is_async = refl
as_expr_no_block _ s params is_async = refl

pub not_expr_not_simple : (t : Tree) → is_expr t ≡ false → is_simple_target t ≡ false
not_expr_not_simple (ident _ _) h = absurd (true≢false h)
not_expr_not_simple (member _ _ _) h = absurd (true≢false h)
not_expr_not_simple (super_prop _ _ _) h = absurd (true≢false h)
not_expr_not_simple (paren _ _) h = absurd (true≢false h)
not_expr_not_simple _ h = refl

pub kind_module_decl : (x : ModuleDecl Held) → is_module_decl (view_module_decl x) ≡ true
kind_module_decl (v_module_decl.Import _) = refl
kind_module_decl _ = refl

pub module_decl_no_directive : (x : ModuleDecl Held) → is_use_strict (view_module_decl x) ≡ false
module_decl_no_directive (v_module_decl.Import _) = refl
module_decl_no_directive _ = refl

pub module_decl_no_string : (x : ModuleDecl Held) → is_string_statement (view_module_decl x) ≡ false
module_decl_no_string (v_module_decl.Import _) = refl
module_decl_no_string _ = refl

pub stmt_no_module_decl : (x : Stmt Held) → is_module_decl (view_stmt x) ≡ false
stmt_no_module_decl (v_stmt.Decl (v_decl.Class _)) = refl
stmt_no_module_decl (v_stmt.Decl _) = refl
stmt_no_module_decl _ = refl
