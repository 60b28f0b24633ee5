-- A name that is exported is one that stands there.
use Rattle.std.proofs.Common.{◌≡◌, false, refl}
use Rattle.swc_ecma_parser_ast.specs.View.{view_module_export_name}
use Rattle.swc_ecma_parser_ast.specs.declared.imports.ModuleExportName.{ModuleExportName}
use Rattle.swc_ecma_parser_ast.specs.declared.imports.ModuleExportName.TheVariants as v
use Rattle.swc_ecma_parser_model.specs.Forms.{is_absent}

pub name_stands : (x : ModuleExportName) → is_absent (view_module_export_name x) ≡ false
name_stands (v.Ident x) = refl
name_stands (v.Str x) = refl
