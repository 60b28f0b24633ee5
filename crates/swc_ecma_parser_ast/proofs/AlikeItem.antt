-- As Alike.antt, for the items of a module.
use Rattle.std.proofs.Common.{◌≡◌, refl, false, ◌&&◌, sym, ◌∙◌}
use Rattle.swc_ecma_parser_model.specs.Leaf.{put_option, put_phase}
use Rattle.swc_ecma_parser_model.specs.Kinds.{is_stmt}
use Rattle.swc_ecma_parser_model.specs.Same.{same, same_laws, alike}
use Rattle.swc_ecma_parser_model.specs.Held.{Held, same_held}
use Rattle.swc_ecma_parser_ast.specs.Nodes.{there_module_export_name, there_object_lit}
use Rattle.swc_ecma_parser_ast.specs.Equal.{equal_span, equal_ident, equal_str, equal_object_lit, equal_stmt, equal_script, equal_module_export_name, equal_import_named_specifier, equal_import_default_specifier, equal_import_star_as_specifier, equal_import_specifier, equal_import_decl, equal_export_decl, equal_export_namespace_specifier, equal_export_default_specifier, equal_export_named_specifier, equal_export_specifier, equal_named_export, equal_default_decl, equal_export_default_decl, equal_export_default_expr, equal_export_all, equal_module_decl, equal_module_item, equal_module, equal_program}
use Rattle.swc_ecma_parser_ast.specs.View.{view_str, view_object_lit, view_stmt, view_script, view_module_export_name, view_import_named_specifier, view_import_default_specifier, view_import_star_as_specifier, view_import_specifier, view_import_decl, view_export_decl, view_export_namespace_specifier, view_export_default_specifier, view_export_named_specifier, view_export_specifier, view_named_export, view_default_decl, view_export_default_decl, view_export_default_expr, view_export_all, view_module_decl, view_module_item, view_module, view_program}
use Rattle.swc_ecma_parser_ast.specs.Differ.{differ}
use Rattle.swc_ecma_parser_ast.specs.Apart.{kind_stmt}
use Rattle.swc_ecma_parser_ast.proofs.Alike.{alike_each, alike_option, alike_object_lit, alike_decl, alike_class_expr, alike_fn_expr, alike_stmt}
use Rattle.swc_ecma_parser_ast.specs.declared.script.Script.{Script}
use Rattle.swc_ecma_parser_ast.specs.declared.imports.ModuleExportName.{ModuleExportName}
use Rattle.swc_ecma_parser_ast.specs.declared.imports.ModuleExportName.TheVariants as v_module_export_name
use Rattle.swc_ecma_parser_ast.specs.declared.imports.ImportNamedSpecifier.{ImportNamedSpecifier}
use Rattle.swc_ecma_parser_ast.specs.declared.imports.ImportDefaultSpecifier.{ImportDefaultSpecifier}
use Rattle.swc_ecma_parser_ast.specs.declared.imports.ImportStarAsSpecifier.{ImportStarAsSpecifier}
use Rattle.swc_ecma_parser_ast.specs.declared.imports.ImportSpecifier.{ImportSpecifier}
use Rattle.swc_ecma_parser_ast.specs.declared.imports.ImportSpecifier.TheVariants as v_import_specifier
use Rattle.swc_ecma_parser_ast.specs.declared.imports.ImportDecl.{ImportDecl}
use Rattle.swc_ecma_parser_ast.specs.declared.exports.ExportDecl.{ExportDecl}
use Rattle.swc_ecma_parser_ast.specs.declared.exports.ExportNamespaceSpecifier.{ExportNamespaceSpecifier}
use Rattle.swc_ecma_parser_ast.specs.declared.exports.ExportDefaultSpecifier.{ExportDefaultSpecifier}
use Rattle.swc_ecma_parser_ast.specs.declared.exports.ExportNamedSpecifier.{ExportNamedSpecifier}
use Rattle.swc_ecma_parser_ast.specs.declared.exports.ExportSpecifier.{ExportSpecifier}
use Rattle.swc_ecma_parser_ast.specs.declared.exports.ExportSpecifier.TheVariants as v_export_specifier
use Rattle.swc_ecma_parser_ast.specs.declared.exports.NamedExport.{NamedExport}
use Rattle.swc_ecma_parser_ast.specs.declared.exports.DefaultDecl.{DefaultDecl}
use Rattle.swc_ecma_parser_ast.specs.declared.exports.DefaultDecl.TheVariants as v_default_decl
use Rattle.swc_ecma_parser_ast.specs.declared.exports.ExportDefaultDecl.{ExportDefaultDecl}
use Rattle.swc_ecma_parser_ast.specs.declared.exports.ExportDefaultExpr.{ExportDefaultExpr}
use Rattle.swc_ecma_parser_ast.specs.declared.exports.ExportAll.{ExportAll}
use Rattle.swc_ecma_parser_ast.specs.declared.program.ModuleDecl.{ModuleDecl}
use Rattle.swc_ecma_parser_ast.specs.declared.program.ModuleDecl.TheVariants as v_module_decl
use Rattle.swc_ecma_parser_ast.specs.declared.program.ModuleItem.{ModuleItem}
use Rattle.swc_ecma_parser_ast.specs.declared.program.ModuleItem.TheVariants as v_module_item
use Rattle.swc_ecma_parser_ast.specs.declared.program.Module.{Module}
use Rattle.swc_ecma_parser_ast.specs.declared.program.Program.{Program}
use Rattle.swc_ecma_parser_ast.specs.declared.program.Program.TheVariants as v_program

not_stmt_module_decl : (x : ModuleDecl Held) → is_stmt (view_module_decl x) ≡ false
not_stmt_module_decl (v_module_decl.Import _) = refl
not_stmt_module_decl (v_module_decl.ExportDecl _) = refl
not_stmt_module_decl (v_module_decl.ExportNamed _) = refl
not_stmt_module_decl (v_module_decl.ExportDefaultDecl _) = refl
not_stmt_module_decl (v_module_decl.ExportDefaultExpr _) = refl
not_stmt_module_decl (v_module_decl.ExportAll _) = refl

pub alike_script : (x y : Script Held) → equal_script same_held x y ≡ same (view_script x) (view_script y)
alike_script x y = λ k. equal_span x.span y.span && (alike_each (equal_stmt same_held) view_stmt alike_stmt x.body.items y.body.items k && alike (put_option x.shebang) (put_option y.shebang))

pub alike_module_export_name : (x y : ModuleExportName) → equal_module_export_name x y ≡ same (view_module_export_name x) (view_module_export_name y)
alike_module_export_name (v_module_export_name.Ident x) (v_module_export_name.Ident y) = refl
alike_module_export_name (v_module_export_name.Str x) (v_module_export_name.Str y) = refl
alike_module_export_name _ _ = refl

pub alike_import_named_specifier : (x y : ImportNamedSpecifier) → equal_import_named_specifier x y ≡ same (view_import_named_specifier x) (view_import_named_specifier y)
alike_import_named_specifier x y = λ k. equal_span x.span y.span && (equal_ident x.local y.local && alike_option equal_module_export_name view_module_export_name alike_module_export_name there_module_export_name x.imported y.imported k)

pub alike_import_default_specifier : (x y : ImportDefaultSpecifier) → equal_import_default_specifier x y ≡ same (view_import_default_specifier x) (view_import_default_specifier y)
alike_import_default_specifier x y = refl

pub alike_import_star_as_specifier : (x y : ImportStarAsSpecifier) → equal_import_star_as_specifier x y ≡ same (view_import_star_as_specifier x) (view_import_star_as_specifier y)
alike_import_star_as_specifier x y = refl

pub alike_import_specifier : (x y : ImportSpecifier) → equal_import_specifier x y ≡ same (view_import_specifier x) (view_import_specifier y)
alike_import_specifier (v_import_specifier.Named x) (v_import_specifier.Named y) = alike_import_named_specifier x y
alike_import_specifier (v_import_specifier.Default x) (v_import_specifier.Default y) = alike_import_default_specifier x y
alike_import_specifier (v_import_specifier.Namespace x) (v_import_specifier.Namespace y) = alike_import_star_as_specifier x y
alike_import_specifier _ _ = refl

pub alike_import_decl : (x y : ImportDecl Held) → equal_import_decl same_held x y ≡ same (view_import_decl x) (view_import_decl y)
alike_import_decl x y = λ k. equal_span x.span y.span && (alike_each equal_import_specifier view_import_specifier alike_import_specifier x.specifiers.items y.specifiers.items k && (equal_str x.src y.src && (alike_option (equal_object_lit same_held) view_object_lit alike_object_lit there_object_lit x.with y.with k && alike (put_phase x.phase) (put_phase y.phase))))

pub alike_export_decl : (x y : ExportDecl Held) → equal_export_decl same_held x y ≡ same (view_export_decl x) (view_export_decl y)
alike_export_decl x y = λ k. equal_span x.span y.span && alike_decl x.decl y.decl k

pub alike_export_namespace_specifier : (x y : ExportNamespaceSpecifier) → equal_export_namespace_specifier x y ≡ same (view_export_namespace_specifier x) (view_export_namespace_specifier y)
alike_export_namespace_specifier x y = λ k. equal_span x.span y.span && alike_module_export_name x.name y.name k

pub alike_export_default_specifier : (x y : ExportDefaultSpecifier) → equal_export_default_specifier x y ≡ same (view_export_default_specifier x) (view_export_default_specifier y)
alike_export_default_specifier x y = refl

pub alike_export_named_specifier : (x y : ExportNamedSpecifier) → equal_export_named_specifier x y ≡ same (view_export_named_specifier x) (view_export_named_specifier y)
alike_export_named_specifier x y = λ k. equal_span x.span y.span && (alike_module_export_name x.orig y.orig k && alike_option equal_module_export_name view_module_export_name alike_module_export_name there_module_export_name x.exported y.exported k)

pub alike_export_specifier : (x y : ExportSpecifier) → equal_export_specifier x y ≡ same (view_export_specifier x) (view_export_specifier y)
alike_export_specifier (v_export_specifier.Namespace x) (v_export_specifier.Namespace y) = alike_export_namespace_specifier x y
alike_export_specifier (v_export_specifier.Default x) (v_export_specifier.Default y) = alike_export_default_specifier x y
alike_export_specifier (v_export_specifier.Named x) (v_export_specifier.Named y) = alike_export_named_specifier x y
alike_export_specifier _ _ = refl

pub alike_named_export : (x y : NamedExport Held) → equal_named_export same_held x y ≡ same (view_named_export x) (view_named_export y)
alike_named_export x y = λ k. equal_span x.span y.span && (alike_each equal_export_specifier view_export_specifier alike_export_specifier x.specifiers.items y.specifiers.items k && (alike_option equal_str view_str (λ a b. refl) (λ x. tt) x.src y.src k && alike_option (equal_object_lit same_held) view_object_lit alike_object_lit there_object_lit x.with y.with k))

pub alike_default_decl : (x y : DefaultDecl Held) → equal_default_decl same_held x y ≡ same (view_default_decl x) (view_default_decl y)
alike_default_decl (v_default_decl.Class x) (v_default_decl.Class y) = alike_class_expr x y
alike_default_decl (v_default_decl.Fn x) (v_default_decl.Fn y) = alike_fn_expr x y
alike_default_decl _ _ = refl

pub alike_export_default_decl : (x y : ExportDefaultDecl Held) → equal_export_default_decl same_held x y ≡ same (view_export_default_decl x) (view_export_default_decl y)
alike_export_default_decl x y = λ k. equal_span x.span y.span && alike_default_decl x.decl y.decl k

pub alike_export_default_expr : (x y : ExportDefaultExpr Held) → equal_export_default_expr same_held x y ≡ same (view_export_default_expr x) (view_export_default_expr y)
alike_export_default_expr x y = refl

pub alike_export_all : (x y : ExportAll Held) → equal_export_all same_held x y ≡ same (view_export_all x) (view_export_all y)
alike_export_all x y = λ k. equal_span x.span y.span && (equal_str x.src y.src && alike_option (equal_object_lit same_held) view_object_lit alike_object_lit there_object_lit x.with y.with k)

pub alike_module_decl : (x y : ModuleDecl Held) → equal_module_decl same_held x y ≡ same (view_module_decl x) (view_module_decl y)
alike_module_decl (v_module_decl.Import x) (v_module_decl.Import y) = alike_import_decl x y
alike_module_decl (v_module_decl.ExportDecl x) (v_module_decl.ExportDecl y) = alike_export_decl x y
alike_module_decl (v_module_decl.ExportNamed x) (v_module_decl.ExportNamed y) = alike_named_export x y
alike_module_decl (v_module_decl.ExportDefaultDecl x) (v_module_decl.ExportDefaultDecl y) = alike_export_default_decl x y
alike_module_decl (v_module_decl.ExportDefaultExpr x) (v_module_decl.ExportDefaultExpr y) = alike_export_default_expr x y
alike_module_decl (v_module_decl.ExportAll x) (v_module_decl.ExportAll y) = alike_export_all x y
alike_module_decl _ _ = refl

pub alike_module_item : (x y : ModuleItem Held) → equal_module_item same_held x y ≡ same (view_module_item x) (view_module_item y)
alike_module_item (v_module_item.ModuleDecl x) (v_module_item.ModuleDecl y) = alike_module_decl x y
alike_module_item (v_module_item.Stmt x) (v_module_item.Stmt y) = alike_stmt x y
alike_module_item (v_module_item.Stmt x) (v_module_item.ModuleDecl y) = sym (differ is_stmt (view_stmt x) (view_module_decl y) (kind_stmt x) (not_stmt_module_decl y))
alike_module_item (v_module_item.ModuleDecl x) (v_module_item.Stmt y) = sym (same_laws.symm (view_module_decl x) (view_stmt y) ∙ differ is_stmt (view_stmt y) (view_module_decl x) (kind_stmt y) (not_stmt_module_decl x))

pub alike_module : (x y : Module Held) → equal_module same_held x y ≡ same (view_module x) (view_module y)
alike_module x y = λ k. equal_span x.span y.span && (alike_each (equal_module_item same_held) view_module_item alike_module_item x.body.items y.body.items k && alike (put_option x.shebang) (put_option y.shebang))

pub alike_program : (x y : Program Held) → equal_program same_held x y ≡ same (view_program x) (view_program y)
alike_program (v_program.Module x) (v_program.Module y) = alike_module x y
alike_program (v_program.Script x) (v_program.Script y) = alike_script x y
alike_program _ _ = refl
