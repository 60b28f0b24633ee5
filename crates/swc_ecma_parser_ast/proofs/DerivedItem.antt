-- As Derived.antt, for the items of a module.
use Rattle.std.proofs.Common.{◌≡◌, refl, ◌&&◌}
use Rattle.std.specs.declared.cmp.PartialEq.{Ghosts}
use denote.RattleType.{RattleType}
use mir.Syntax.{Dict}
use Rattle.swc_ecma_parser_ast.specs.Equal.{equal_span, equal_str, equal_object_lit, equal_stmt, equal_script, equal_module_export_name, equal_import_named_specifier, equal_import_default_specifier, equal_import_star_as_specifier, equal_import_specifier, equal_import_decl, equal_export_decl, equal_export_namespace_specifier, equal_export_default_specifier, equal_export_named_specifier, equal_export_specifier, equal_named_export, equal_default_decl, equal_export_default_decl, equal_export_default_expr, equal_export_all, equal_module_decl, equal_module_item, equal_module, equal_program}
use Rattle.swc_ecma_parser_ast.proofs.Derived.{derived_object_lit, derived_decl, derived_class_expr, derived_fn_expr, derived_stmt}
use Rattle.swc_ecma_parser_ast.proofs.DerivedLeaf.{derived_each, derived_option, derived_optional_text, derived_import_phase, derived_ident, derived_str}
use Rattle.swc_ecma_parser_ast.specs.declared.script.Script.{Script}
use Rattle.swc_ecma_parser_ast.specs.declared.imports.ModuleExportName.{ModuleExportName}
use Rattle.swc_ecma_parser_ast.specs.declared.imports.ModuleExportName.TheVariants as v_module_export_name
use Rattle.swc_ecma_parser_ast.specs.declared.imports.ImportNamedSpecifier.{ImportNamedSpecifier}
use Rattle.swc_ecma_parser_ast.specs.declared.imports.ImportDefaultSpecifier.{ImportDefaultSpecifier}
use Rattle.swc_ecma_parser_ast.specs.declared.imports.ImportStarAsSpecifier.{ImportStarAsSpecifier}
use Rattle.swc_ecma_parser_ast.specs.declared.imports.ImportSpecifier.{ImportSpecifier}
use Rattle.swc_ecma_parser_ast.specs.declared.imports.ImportSpecifier.TheVariants as v_import_specifier
use Rattle.swc_ecma_parser_ast.specs.declared.imports.ImportDecl.{ImportDecl}
use Rattle.swc_ecma_parser_ast.specs.declared.exports.ExportDecl.{ExportDecl}
use Rattle.swc_ecma_parser_ast.specs.declared.exports.ExportNamespaceSpecifier.{ExportNamespaceSpecifier}
use Rattle.swc_ecma_parser_ast.specs.declared.exports.ExportDefaultSpecifier.{ExportDefaultSpecifier}
use Rattle.swc_ecma_parser_ast.specs.declared.exports.ExportNamedSpecifier.{ExportNamedSpecifier}
use Rattle.swc_ecma_parser_ast.specs.declared.exports.ExportSpecifier.{ExportSpecifier}
use Rattle.swc_ecma_parser_ast.specs.declared.exports.ExportSpecifier.TheVariants as v_export_specifier
use Rattle.swc_ecma_parser_ast.specs.declared.exports.NamedExport.{NamedExport}
use Rattle.swc_ecma_parser_ast.specs.declared.exports.DefaultDecl.{DefaultDecl}
use Rattle.swc_ecma_parser_ast.specs.declared.exports.DefaultDecl.TheVariants as v_default_decl
use Rattle.swc_ecma_parser_ast.specs.declared.exports.ExportDefaultDecl.{ExportDefaultDecl}
use Rattle.swc_ecma_parser_ast.specs.declared.exports.ExportDefaultExpr.{ExportDefaultExpr}
use Rattle.swc_ecma_parser_ast.specs.declared.exports.ExportAll.{ExportAll}
use Rattle.swc_ecma_parser_ast.specs.declared.program.ModuleDecl.{ModuleDecl}
use Rattle.swc_ecma_parser_ast.specs.declared.program.ModuleDecl.TheVariants as v_module_decl
use Rattle.swc_ecma_parser_ast.specs.declared.program.ModuleItem.{ModuleItem}
use Rattle.swc_ecma_parser_ast.specs.declared.program.ModuleItem.TheVariants as v_module_item
use Rattle.swc_ecma_parser_ast.specs.declared.program.Module.{Module}
use Rattle.swc_ecma_parser_ast.specs.declared.program.Program.{Program}
use Rattle.swc_ecma_parser_ast.specs.declared.program.Program.TheVariants as v_program
use Rattle.swc_ecma_parser_ast.specs.contracts.script.ScriptPartialEq.TheImpl as i_script
use Rattle.swc_ecma_parser_ast.specs.contracts.imports.ModuleExportNamePartialEq.TheImpl as i_module_export_name
use Rattle.swc_ecma_parser_ast.specs.contracts.imports.ImportNamedSpecifierPartialEq.TheImpl as i_import_named_specifier
use Rattle.swc_ecma_parser_ast.specs.contracts.imports.ImportDefaultSpecifierPartialEq.TheImpl as i_import_default_specifier
use Rattle.swc_ecma_parser_ast.specs.contracts.imports.ImportStarAsSpecifierPartialEq.TheImpl as i_import_star_as_specifier
use Rattle.swc_ecma_parser_ast.specs.contracts.imports.ImportSpecifierPartialEq.TheImpl as i_import_specifier
use Rattle.swc_ecma_parser_ast.specs.contracts.imports.ImportDeclPartialEq.TheImpl as i_import_decl
use Rattle.swc_ecma_parser_ast.specs.contracts.exports.ExportDeclPartialEq.TheImpl as i_export_decl
use Rattle.swc_ecma_parser_ast.specs.contracts.exports.ExportNamespaceSpecifierPartialEq.TheImpl as i_export_namespace_specifier
use Rattle.swc_ecma_parser_ast.specs.contracts.exports.ExportDefaultSpecifierPartialEq.TheImpl as i_export_default_specifier
use Rattle.swc_ecma_parser_ast.specs.contracts.exports.ExportNamedSpecifierPartialEq.TheImpl as i_export_named_specifier
use Rattle.swc_ecma_parser_ast.specs.contracts.exports.ExportSpecifierPartialEq.TheImpl as i_export_specifier
use Rattle.swc_ecma_parser_ast.specs.contracts.exports.NamedExportPartialEq.TheImpl as i_named_export
use Rattle.swc_ecma_parser_ast.specs.contracts.exports.DefaultDeclPartialEq.TheImpl as i_default_decl
use Rattle.swc_ecma_parser_ast.specs.contracts.exports.ExportDefaultDeclPartialEq.TheImpl as i_export_default_decl
use Rattle.swc_ecma_parser_ast.specs.contracts.exports.ExportDefaultExprPartialEq.TheImpl as i_export_default_expr
use Rattle.swc_ecma_parser_ast.specs.contracts.exports.ExportAllPartialEq.TheImpl as i_export_all
use Rattle.swc_ecma_parser_ast.specs.contracts.program.ModuleDeclPartialEq.TheImpl as i_module_decl
use Rattle.swc_ecma_parser_ast.specs.contracts.program.ModuleItemPartialEq.TheImpl as i_module_item
use Rattle.swc_ecma_parser_ast.specs.contracts.program.ModulePartialEq.TheImpl as i_module
use Rattle.swc_ecma_parser_ast.specs.contracts.program.ProgramPartialEq.TheImpl as i_program

pub derived_module_export_name : (x y : ModuleExportName) → i_module_export_name.ghosts.eq x y ≡ equal_module_export_name x y
derived_module_export_name (v_module_export_name.Ident x) (v_module_export_name.Ident y) = derived_ident x y
derived_module_export_name (v_module_export_name.Str x) (v_module_export_name.Str y) = derived_str x y
derived_module_export_name _ _ = refl

pub derived_import_named_specifier : (x y : ImportNamedSpecifier) → i_import_named_specifier.ghosts.eq x y ≡ equal_import_named_specifier x y
derived_import_named_specifier x y = λ k. equal_span x.span y.span && (derived_ident x.local y.local k && derived_option _ equal_module_export_name derived_module_export_name x.imported y.imported k)

pub derived_import_default_specifier : (x y : ImportDefaultSpecifier) → i_import_default_specifier.ghosts.eq x y ≡ equal_import_default_specifier x y
derived_import_default_specifier x y = λ k. equal_span x.span y.span && derived_ident x.local y.local k

pub derived_import_star_as_specifier : (x y : ImportStarAsSpecifier) → i_import_star_as_specifier.ghosts.eq x y ≡ equal_import_star_as_specifier x y
derived_import_star_as_specifier x y = λ k. equal_span x.span y.span && derived_ident x.local y.local k

pub derived_import_specifier : (x y : ImportSpecifier) → i_import_specifier.ghosts.eq x y ≡ equal_import_specifier x y
derived_import_specifier (v_import_specifier.Named x) (v_import_specifier.Named y) = derived_import_named_specifier x y
derived_import_specifier (v_import_specifier.Default x) (v_import_specifier.Default y) = derived_import_default_specifier x y
derived_import_specifier (v_import_specifier.Namespace x) (v_import_specifier.Namespace y) = derived_import_star_as_specifier x y
derived_import_specifier _ _ = refl

pub derived_export_namespace_specifier : (x y : ExportNamespaceSpecifier) → i_export_namespace_specifier.ghosts.eq x y ≡ equal_export_namespace_specifier x y
derived_export_namespace_specifier x y = λ k. equal_span x.span y.span && derived_module_export_name x.name y.name k

pub derived_export_default_specifier : (x y : ExportDefaultSpecifier) → i_export_default_specifier.ghosts.eq x y ≡ equal_export_default_specifier x y
derived_export_default_specifier x y = λ k. derived_ident x.exported y.exported k

pub derived_export_named_specifier : (x y : ExportNamedSpecifier) → i_export_named_specifier.ghosts.eq x y ≡ equal_export_named_specifier x y
derived_export_named_specifier x y = λ k. equal_span x.span y.span && (derived_module_export_name x.orig y.orig k && derived_option _ equal_module_export_name derived_module_export_name x.exported y.exported k)

pub derived_export_specifier : (x y : ExportSpecifier) → i_export_specifier.ghosts.eq x y ≡ equal_export_specifier x y
derived_export_specifier (v_export_specifier.Namespace x) (v_export_specifier.Namespace y) = derived_export_namespace_specifier x y
derived_export_specifier (v_export_specifier.Default x) (v_export_specifier.Default y) = derived_export_default_specifier x y
derived_export_specifier (v_export_specifier.Named x) (v_export_specifier.Named y) = derived_export_named_specifier x y
derived_export_specifier _ _ = refl

module _ (R : RattleType) (g : Ghosts R.Denot) (dict : Dict) where
  pub derived_script : (x y : Script R.Denot) → (i_script.eq-value R g dict).it x y ≡ equal_script g.eq x y
  derived_script x y = λ k. equal_span x.span y.span && (derived_each _ (equal_stmt g.eq) (derived_stmt R g dict) x.body.items y.body.items k && derived_optional_text x.shebang y.shebang k)

  pub derived_import_decl : (x y : ImportDecl R.Denot) → (i_import_decl.eq-value R g dict).it x y ≡ equal_import_decl g.eq x y
  derived_import_decl x y = λ k. equal_span x.span y.span && (derived_each _ equal_import_specifier derived_import_specifier x.specifiers.items y.specifiers.items k && (derived_str x.src y.src k && (derived_option _ (equal_object_lit g.eq) (derived_object_lit R g dict) x.with y.with k && derived_import_phase x.phase y.phase k)))

  pub derived_export_decl : (x y : ExportDecl R.Denot) → (i_export_decl.eq-value R g dict).it x y ≡ equal_export_decl g.eq x y
  derived_export_decl x y = λ k. equal_span x.span y.span && derived_decl R g dict x.decl y.decl k

  pub derived_named_export : (x y : NamedExport R.Denot) → (i_named_export.eq-value R g dict).it x y ≡ equal_named_export g.eq x y
  derived_named_export x y = λ k. equal_span x.span y.span && (derived_each _ equal_export_specifier derived_export_specifier x.specifiers.items y.specifiers.items k && (derived_option _ equal_str derived_str x.src y.src k && derived_option _ (equal_object_lit g.eq) (derived_object_lit R g dict) x.with y.with k))

  pub derived_default_decl : (x y : DefaultDecl R.Denot) → (i_default_decl.eq-value R g dict).it x y ≡ equal_default_decl g.eq x y
  derived_default_decl (v_default_decl.Class x) (v_default_decl.Class y) = derived_class_expr R g dict x y
  derived_default_decl (v_default_decl.Fn x) (v_default_decl.Fn y) = derived_fn_expr R g dict x y
  derived_default_decl _ _ = refl

  pub derived_export_default_decl : (x y : ExportDefaultDecl R.Denot) → (i_export_default_decl.eq-value R g dict).it x y ≡ equal_export_default_decl g.eq x y
  derived_export_default_decl x y = λ k. equal_span x.span y.span && derived_default_decl x.decl y.decl k

  pub derived_export_default_expr : (x y : ExportDefaultExpr R.Denot) → (i_export_default_expr.eq-value R g dict).it x y ≡ equal_export_default_expr g.eq x y
  derived_export_default_expr x y = refl

  pub derived_export_all : (x y : ExportAll R.Denot) → (i_export_all.eq-value R g dict).it x y ≡ equal_export_all g.eq x y
  derived_export_all x y = λ k. equal_span x.span y.span && (derived_str x.src y.src k && derived_option _ (equal_object_lit g.eq) (derived_object_lit R g dict) x.with y.with k)

  pub derived_module_decl : (x y : ModuleDecl R.Denot) → (i_module_decl.eq-value R g dict).it x y ≡ equal_module_decl g.eq x y
  derived_module_decl (v_module_decl.Import x) (v_module_decl.Import y) = derived_import_decl x y
  derived_module_decl (v_module_decl.ExportDecl x) (v_module_decl.ExportDecl y) = derived_export_decl x y
  derived_module_decl (v_module_decl.ExportNamed x) (v_module_decl.ExportNamed y) = derived_named_export x y
  derived_module_decl (v_module_decl.ExportDefaultDecl x) (v_module_decl.ExportDefaultDecl y) = derived_export_default_decl x y
  derived_module_decl (v_module_decl.ExportDefaultExpr x) (v_module_decl.ExportDefaultExpr y) = derived_export_default_expr x y
  derived_module_decl (v_module_decl.ExportAll x) (v_module_decl.ExportAll y) = derived_export_all x y
  derived_module_decl _ _ = refl

  pub derived_module_item : (x y : ModuleItem R.Denot) → (i_module_item.eq-value R g dict).it x y ≡ equal_module_item g.eq x y
  derived_module_item (v_module_item.ModuleDecl x) (v_module_item.ModuleDecl y) = derived_module_decl x y
  derived_module_item (v_module_item.Stmt x) (v_module_item.Stmt y) = derived_stmt R g dict x y
  derived_module_item _ _ = refl

  pub derived_module : (x y : Module R.Denot) → (i_module.eq-value R g dict).it x y ≡ equal_module g.eq x y
  derived_module x y = λ k. equal_span x.span y.span && (derived_each _ (equal_module_item g.eq) derived_module_item x.body.items y.body.items k && derived_optional_text x.shebang y.shebang k)

  pub derived_program : (x y : Program R.Denot) → (i_program.eq-value R g dict).it x y ≡ equal_program g.eq x y
  derived_program (v_program.Module x) (v_program.Module y) = derived_module x y
  derived_program (v_program.Script x) (v_program.Script y) = derived_script x y
  derived_program _ _ = refl
