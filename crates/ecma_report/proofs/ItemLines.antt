-- The lines of one item by itself.
use Rattle.std.proofs.Common.{◌≡◌, refl}
use Rattle.swc_ecma_parser_model.specs.Held.{Held}
use Rattle.swc_ecma_parser_ast.specs.declared.decl.Decl.TheVariants as v_decl
use Rattle.swc_ecma_parser_ast.specs.declared.program.ModuleDecl.TheVariants as v_module_decl
use Rattle.swc_ecma_parser_ast.specs.declared.program.ModuleItem.{ModuleItem}
use Rattle.swc_ecma_parser_ast.specs.declared.program.ModuleItem.TheVariants as v_module_item
use Rattle.swc_ecma_parser_ast.specs.declared.stmt.Stmt.TheVariants as v_stmt
use Rattle.swc_ecma_parser_ast.specs.View.{view_module_item}
use Rattle.ecma_report.specs.Lines.{whole_lines, item_line}

-- no item is a script or a module, so it has one line
pub own_line : (x : ModuleItem Held) → whole_lines (view_module_item x) ≡ item_line (view_module_item x)
own_line (v_module_item.ModuleDecl (v_module_decl.Import _)) = refl
own_line (v_module_item.ModuleDecl (v_module_decl.ExportDecl _)) = refl
own_line (v_module_item.ModuleDecl (v_module_decl.ExportNamed _)) = refl
own_line (v_module_item.ModuleDecl (v_module_decl.ExportDefaultDecl _)) = refl
own_line (v_module_item.ModuleDecl (v_module_decl.ExportDefaultExpr _)) = refl
own_line (v_module_item.ModuleDecl (v_module_decl.ExportAll _)) = refl
own_line (v_module_item.Stmt (v_stmt.Block _)) = refl
own_line (v_module_item.Stmt (v_stmt.Empty _)) = refl
own_line (v_module_item.Stmt (v_stmt.Debugger _)) = refl
own_line (v_module_item.Stmt (v_stmt.With _)) = refl
own_line (v_module_item.Stmt (v_stmt.Return _)) = refl
own_line (v_module_item.Stmt (v_stmt.Labeled _)) = refl
own_line (v_module_item.Stmt (v_stmt.Break _)) = refl
own_line (v_module_item.Stmt (v_stmt.Continue _)) = refl
own_line (v_module_item.Stmt (v_stmt.If _)) = refl
own_line (v_module_item.Stmt (v_stmt.Switch _)) = refl
own_line (v_module_item.Stmt (v_stmt.Throw _)) = refl
own_line (v_module_item.Stmt (v_stmt.Try _)) = refl
own_line (v_module_item.Stmt (v_stmt.While _)) = refl
own_line (v_module_item.Stmt (v_stmt.DoWhile _)) = refl
own_line (v_module_item.Stmt (v_stmt.For _)) = refl
own_line (v_module_item.Stmt (v_stmt.ForIn _)) = refl
own_line (v_module_item.Stmt (v_stmt.ForOf _)) = refl
own_line (v_module_item.Stmt (v_stmt.Decl (v_decl.Class _))) = refl
own_line (v_module_item.Stmt (v_stmt.Decl (v_decl.Fn _))) = refl
own_line (v_module_item.Stmt (v_stmt.Decl (v_decl.Var _))) = refl
own_line (v_module_item.Stmt (v_stmt.Decl (v_decl.Using _))) = refl
own_line (v_module_item.Stmt (v_stmt.Expr _)) = refl
