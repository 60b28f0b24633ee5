-- What is no directive is written as it is, where directives may stand too.
use Rattle.std.proofs.Common.{◌≡◌, false, refl}
use Rattle.ecma_estree_writer.specs.Estree.{json, plain, directives, next}
use Rattle.ecma_estree_writer.specs.Source.{Source}
use Rattle.swc_ecma_parser_ast.specs.View.{view_module_decl}
use Rattle.swc_ecma_parser_ast.specs.declared.program.ModuleDecl.{ModuleDecl}
use Rattle.swc_ecma_parser_ast.specs.declared.program.ModuleDecl.TheVariants as d
use Rattle.swc_ecma_parser_model.specs.Directive.{is_string_statement}
use Rattle.swc_ecma_parser_model.specs.Held.{Held}
use Rattle.swc_ecma_parser_model.specs.Tree.{Tree}

pub as_it_is : (t : Source) (x : Tree) → is_string_statement x ≡ false → json t (next directives x) x ≡ json t plain x
as_it_is t x h = rw h refl

pub no_string : (x : ModuleDecl Held) → is_string_statement (view_module_decl x) ≡ false
no_string (d.Import _) = refl
no_string (d.ExportDecl _) = refl
no_string (d.ExportNamed _) = refl
no_string (d.ExportDefaultDecl _) = refl
no_string (d.ExportDefaultExpr _) = refl
no_string (d.ExportAll _) = refl

pub declaration_as_it_is : (t : Source) (x : ModuleDecl Held)
    → json t (next directives (view_module_decl x)) (view_module_decl x) ≡ json t plain (view_module_decl x)
declaration_as_it_is t x = as_it_is t (view_module_decl x) (no_string x)
