-- As Respanned.antt, for the items of a module.
use Rattle.std.proofs.Common.{◌≡◌, refl, false, ◌&&◌, sym, ◌∙◌}
use Rattle.swc_ecma_parser_model.specs.Leaf.{put_phase}
use Rattle.swc_ecma_parser_model.specs.Kinds.{is_stmt}
use Rattle.swc_ecma_parser_model.specs.Same.{same_laws, alike}
use Rattle.swc_ecma_parser_model.specs.Held.{Held}
use Rattle.swc_ecma_parser_ast.specs.Nodes.{there_module_export_name, there_object_lit}
use Rattle.swc_ecma_parser_ast.specs.Like.{like_ident, like_str, like_object_lit, like_stmt, like_script, like_module_export_name, like_import_named_specifier, like_import_default_specifier, like_import_star_as_specifier, like_import_specifier, like_import_decl, like_export_decl, like_export_namespace_specifier, like_export_default_specifier, like_export_named_specifier, like_export_specifier, like_named_export, like_default_decl, like_export_default_decl, like_export_default_expr, like_export_all, like_module_decl, like_module_item, like_module, like_program}
use Rattle.swc_ecma_parser_ast.specs.View.{view_str, view_object_lit, view_stmt, view_script, view_module_export_name, view_import_named_specifier, view_import_default_specifier, view_import_star_as_specifier, view_import_specifier, view_import_decl, view_export_decl, view_export_namespace_specifier, view_export_default_specifier, view_export_named_specifier, view_export_specifier, view_named_export, view_default_decl, view_export_default_decl, view_export_default_expr, view_export_all, view_module_decl, view_module_item, view_module, view_program}
use Rattle.swc_ecma_parser_ast.specs.Differ.{differ}
use Rattle.swc_ecma_parser_ast.specs.Apart.{kind_stmt}
use Rattle.swc_ecma_parser_ast.specs.Respanned.{alike_each, alike_option, alike_object_lit, alike_decl, alike_class_expr, alike_fn_expr, alike_stmt, same_span, like, held, kept_stmt, alike_shebang}
use Rattle.swc_ecma_parser_ast.specs.declared.script.Script.{Script}
use Rattle.swc_ecma_parser_ast.specs.declared.imports.ModuleExportName.{ModuleExportName}
use Rattle.swc_ecma_parser_ast.specs.declared.imports.ModuleExportName.TheVariants as v_module_export_name
use Rattle.swc_ecma_parser_ast.specs.declared.imports.ImportNamedSpecifier.{ImportNamedSpecifier}
use Rattle.swc_ecma_parser_ast.specs.declared.imports.ImportDefaultSpecifier.{ImportDefaultSpecifier}
use Rattle.swc_ecma_parser_ast.specs.declared.imports.ImportStarAsSpecifier.{ImportStarAsSpecifier}
use Rattle.swc_ecma_parser_ast.specs.declared.imports.ImportSpecifier.{ImportSpecifier}
use Rattle.swc_ecma_parser_ast.specs.declared.imports.ImportSpecifier.TheVariants as v_import_specifier
use Rattle.swc_ecma_parser_ast.specs.declared.imports.ImportDecl.{ImportDecl}
use Rattle.swc_ecma_parser_ast.specs.declared.exports.ExportDecl.{ExportDecl}
use Rattle.swc_ecma_parser_ast.specs.declared.exports.ExportNamespaceSpecifier.{ExportNamespaceSpecifier}
use Rattle.swc_ecma_parser_ast.specs.declared.exports.ExportDefaultSpecifier.{ExportDefaultSpecifier}
use Rattle.swc_ecma_parser_ast.specs.declared.exports.ExportNamedSpecifier.{ExportNamedSpecifier}
use Rattle.swc_ecma_parser_ast.specs.declared.exports.ExportSpecifier.{ExportSpecifier}
use Rattle.swc_ecma_parser_ast.specs.declared.exports.ExportSpecifier.TheVariants as v_export_specifier
use Rattle.swc_ecma_parser_ast.specs.declared.exports.NamedExport.{NamedExport}
use Rattle.swc_ecma_parser_ast.specs.declared.exports.DefaultDecl.{DefaultDecl}
use Rattle.swc_ecma_parser_ast.specs.declared.exports.DefaultDecl.TheVariants as v_default_decl
use Rattle.swc_ecma_parser_ast.specs.declared.exports.ExportDefaultDecl.{ExportDefaultDecl}
use Rattle.swc_ecma_parser_ast.specs.declared.exports.ExportDefaultExpr.{ExportDefaultExpr}
use Rattle.swc_ecma_parser_ast.specs.declared.exports.ExportAll.{ExportAll}
use Rattle.swc_ecma_parser_ast.specs.declared.program.ModuleDecl.{ModuleDecl}
use Rattle.swc_ecma_parser_ast.specs.declared.program.ModuleDecl.TheVariants as v_module_decl
use Rattle.swc_ecma_parser_ast.specs.declared.program.ModuleItem.{ModuleItem}
use Rattle.swc_ecma_parser_ast.specs.declared.program.ModuleItem.TheVariants as v_module_item
use Rattle.swc_ecma_parser_ast.specs.declared.program.Module.{Module}
use Rattle.swc_ecma_parser_ast.specs.declared.program.Program.{Program}
use Rattle.swc_ecma_parser_ast.specs.declared.program.Program.TheVariants as v_program
use Rattle.swc_ecma_parser_common.specs.declared.span.Span.{Span}
use Rattle.swc_ecma_parser_ast.specs.declared.stmt.Stmt.{Stmt}
use Rattle.swc_ecma_parser_ast.specs.Unspanned.{respan}

not_stmt_module_decl : (x : ModuleDecl Held) → is_stmt (view_module_decl x) ≡ false
not_stmt_module_decl (v_module_decl.Import _) = refl
not_stmt_module_decl (v_module_decl.ExportDecl _) = refl
not_stmt_module_decl (v_module_decl.ExportNamed _) = refl
not_stmt_module_decl (v_module_decl.ExportDefaultDecl _) = refl
not_stmt_module_decl (v_module_decl.ExportDefaultExpr _) = refl
not_stmt_module_decl (v_module_decl.ExportAll _) = refl

module _ (f : Span → Span) where
  stmt_module_decl : (x : Stmt Held) (y : ModuleDecl Held) → false ≡ like f (view_stmt x) (view_module_decl y)
  stmt_module_decl x y =
      sym (differ is_stmt (respan f (view_stmt x)) (respan f (view_module_decl y)) (kept_stmt f (view_stmt x) ∙ kind_stmt x) (kept_stmt f (view_module_decl y) ∙ not_stmt_module_decl y))

  pub alike_script : (x y : Script Held) → like_script (same_span f) (held f) x y ≡ like f (view_script x) (view_script y)
  alike_script x y = λ k. same_span f x.span y.span && (alike_each f (like_stmt (same_span f) (held f)) view_stmt (alike_stmt f) x.body.items y.body.items k && alike_shebang x.shebang y.shebang k)

  pub alike_module_export_name : (x y : ModuleExportName) → like_module_export_name (same_span f) x y ≡ like f (view_module_export_name x) (view_module_export_name y)
  alike_module_export_name (v_module_export_name.Ident x) (v_module_export_name.Ident y) = refl
  alike_module_export_name (v_module_export_name.Str x) (v_module_export_name.Str y) = refl
  alike_module_export_name _ _ = refl

  pub alike_import_named_specifier : (x y : ImportNamedSpecifier) → like_import_named_specifier (same_span f) x y ≡ like f (view_import_named_specifier x) (view_import_named_specifier y)
  alike_import_named_specifier x y = λ k. same_span f x.span y.span && (like_ident (same_span f) x.local y.local && alike_option f (like_module_export_name (same_span f)) view_module_export_name alike_module_export_name there_module_export_name x.imported y.imported k)

  pub alike_import_default_specifier : (x y : ImportDefaultSpecifier) → like_import_default_specifier (same_span f) x y ≡ like f (view_import_default_specifier x) (view_import_default_specifier y)
  alike_import_default_specifier x y = refl

  pub alike_import_star_as_specifier : (x y : ImportStarAsSpecifier) → like_import_star_as_specifier (same_span f) x y ≡ like f (view_import_star_as_specifier x) (view_import_star_as_specifier y)
  alike_import_star_as_specifier x y = refl

  pub alike_import_specifier : (x y : ImportSpecifier) → like_import_specifier (same_span f) x y ≡ like f (view_import_specifier x) (view_import_specifier y)
  alike_import_specifier (v_import_specifier.Named x) (v_import_specifier.Named y) = alike_import_named_specifier x y
  alike_import_specifier (v_import_specifier.Default x) (v_import_specifier.Default y) = alike_import_default_specifier x y
  alike_import_specifier (v_import_specifier.Namespace x) (v_import_specifier.Namespace y) = alike_import_star_as_specifier x y
  alike_import_specifier _ _ = refl

  pub alike_import_decl : (x y : ImportDecl Held) → like_import_decl (same_span f) (held f) x y ≡ like f (view_import_decl x) (view_import_decl y)
  alike_import_decl x y = λ k. same_span f x.span y.span && (alike_each f (like_import_specifier (same_span f)) view_import_specifier alike_import_specifier x.specifiers.items y.specifiers.items k && (like_str (same_span f) x.src y.src && (alike_option f (like_object_lit (same_span f) (held f)) view_object_lit (alike_object_lit f) there_object_lit x.with y.with k && alike (put_phase x.phase) (put_phase y.phase))))

  pub alike_export_decl : (x y : ExportDecl Held) → like_export_decl (same_span f) (held f) x y ≡ like f (view_export_decl x) (view_export_decl y)
  alike_export_decl x y = λ k. same_span f x.span y.span && alike_decl f x.decl y.decl k

  pub alike_export_namespace_specifier : (x y : ExportNamespaceSpecifier) → like_export_namespace_specifier (same_span f) x y ≡ like f (view_export_namespace_specifier x) (view_export_namespace_specifier y)
  alike_export_namespace_specifier x y = λ k. same_span f x.span y.span && alike_module_export_name x.name y.name k

  pub alike_export_default_specifier : (x y : ExportDefaultSpecifier) → like_export_default_specifier (same_span f) x y ≡ like f (view_export_default_specifier x) (view_export_default_specifier y)
  alike_export_default_specifier x y = refl

  pub alike_export_named_specifier : (x y : ExportNamedSpecifier) → like_export_named_specifier (same_span f) x y ≡ like f (view_export_named_specifier x) (view_export_named_specifier y)
  alike_export_named_specifier x y = λ k. same_span f x.span y.span && (alike_module_export_name x.orig y.orig k && alike_option f (like_module_export_name (same_span f)) view_module_export_name alike_module_export_name there_module_export_name x.exported y.exported k)

  pub alike_export_specifier : (x y : ExportSpecifier) → like_export_specifier (same_span f) x y ≡ like f (view_export_specifier x) (view_export_specifier y)
  alike_export_specifier (v_export_specifier.Namespace x) (v_export_specifier.Namespace y) = alike_export_namespace_specifier x y
  alike_export_specifier (v_export_specifier.Default x) (v_export_specifier.Default y) = alike_export_default_specifier x y
  alike_export_specifier (v_export_specifier.Named x) (v_export_specifier.Named y) = alike_export_named_specifier x y
  alike_export_specifier _ _ = refl

  pub alike_named_export : (x y : NamedExport Held) → like_named_export (same_span f) (held f) x y ≡ like f (view_named_export x) (view_named_export y)
  alike_named_export x y = λ k. same_span f x.span y.span && (alike_each f (like_export_specifier (same_span f)) view_export_specifier alike_export_specifier x.specifiers.items y.specifiers.items k && (alike_option f (like_str (same_span f)) view_str (λ a b. refl) (λ x. tt) x.src y.src k && alike_option f (like_object_lit (same_span f) (held f)) view_object_lit (alike_object_lit f) there_object_lit x.with y.with k))

  pub alike_default_decl : (x y : DefaultDecl Held) → like_default_decl (same_span f) (held f) x y ≡ like f (view_default_decl x) (view_default_decl y)
  alike_default_decl (v_default_decl.Class x) (v_default_decl.Class y) = alike_class_expr f x y
  alike_default_decl (v_default_decl.Fn x) (v_default_decl.Fn y) = alike_fn_expr f x y
  alike_default_decl _ _ = refl

  pub alike_export_default_decl : (x y : ExportDefaultDecl Held) → like_export_default_decl (same_span f) (held f) x y ≡ like f (view_export_default_decl x) (view_export_default_decl y)
  alike_export_default_decl x y = λ k. same_span f x.span y.span && alike_default_decl x.decl y.decl k

  pub alike_export_default_expr : (x y : ExportDefaultExpr Held) → like_export_default_expr (same_span f) (held f) x y ≡ like f (view_export_default_expr x) (view_export_default_expr y)
  alike_export_default_expr x y = refl

  pub alike_export_all : (x y : ExportAll Held) → like_export_all (same_span f) (held f) x y ≡ like f (view_export_all x) (view_export_all y)
  alike_export_all x y = λ k. same_span f x.span y.span && (like_str (same_span f) x.src y.src && alike_option f (like_object_lit (same_span f) (held f)) view_object_lit (alike_object_lit f) there_object_lit x.with y.with k)

  pub alike_module_decl : (x y : ModuleDecl Held) → like_module_decl (same_span f) (held f) x y ≡ like f (view_module_decl x) (view_module_decl y)
  alike_module_decl (v_module_decl.Import x) (v_module_decl.Import y) = alike_import_decl x y
  alike_module_decl (v_module_decl.ExportDecl x) (v_module_decl.ExportDecl y) = alike_export_decl x y
  alike_module_decl (v_module_decl.ExportNamed x) (v_module_decl.ExportNamed y) = alike_named_export x y
  alike_module_decl (v_module_decl.ExportDefaultDecl x) (v_module_decl.ExportDefaultDecl y) = alike_export_default_decl x y
  alike_module_decl (v_module_decl.ExportDefaultExpr x) (v_module_decl.ExportDefaultExpr y) = alike_export_default_expr x y
  alike_module_decl (v_module_decl.ExportAll x) (v_module_decl.ExportAll y) = alike_export_all x y
  alike_module_decl _ _ = refl

  pub alike_module_item : (x y : ModuleItem Held) → like_module_item (same_span f) (held f) x y ≡ like f (view_module_item x) (view_module_item y)
  alike_module_item (v_module_item.ModuleDecl x) (v_module_item.ModuleDecl y) = alike_module_decl x y
  alike_module_item (v_module_item.Stmt x) (v_module_item.Stmt y) = alike_stmt f x y
  alike_module_item (v_module_item.Stmt x) (v_module_item.ModuleDecl y) = stmt_module_decl x y
  alike_module_item (v_module_item.ModuleDecl x) (v_module_item.Stmt y) = stmt_module_decl y x ∙ same_laws.symm (respan f (view_stmt y)) (respan f (view_module_decl x))

  pub alike_module : (x y : Module Held) → like_module (same_span f) (held f) x y ≡ like f (view_module x) (view_module y)
  alike_module x y = λ k. same_span f x.span y.span && (alike_each f (like_module_item (same_span f) (held f)) view_module_item alike_module_item x.body.items y.body.items k && alike_shebang x.shebang y.shebang k)

  pub alike_program : (x y : Program Held) → like_program (same_span f) (held f) x y ≡ like f (view_program x) (view_program y)
  alike_program (v_program.Module x) (v_program.Module y) = alike_module x y
  alike_program (v_program.Script x) (v_program.Script y) = alike_script x y
  alike_program _ _ = refl
