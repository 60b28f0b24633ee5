-- A declaration is no directive, and none can follow it.
use Rattle.std.proofs.Common.{◌≡◌, false, refl}
use Rattle.swc_ecma_parser_ast.specs.View.{view_decl}
use Rattle.swc_ecma_parser_ast.specs.declared.decl.Decl.{Decl}
use Rattle.swc_ecma_parser_ast.specs.declared.decl.Decl.TheVariants as v_decl
use Rattle.swc_ecma_parser_model.specs.Directive.{is_string_statement, is_use_strict}
use Rattle.swc_ecma_parser_model.specs.Held.{Held}

pub no_directive : (x : Decl Held) → is_use_strict (view_decl x) ≡ false
no_directive (v_decl.Class _) = refl
no_directive _ = refl

pub no_string : (x : Decl Held) → is_string_statement (view_decl x) ≡ false
no_string (v_decl.Class _) = refl
no_string _ = refl
