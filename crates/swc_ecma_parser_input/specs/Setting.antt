-- The settings of a language.
use Rattle.std.specs.Prelude.{false}
use Rattle.swc_ecma_parser_input.specs.declared.syntax.Syntax.{Syntax}
use Rattle.swc_ecma_parser_input.specs.declared.syntax.Syntax.TheVariants as syntax
use Rattle.swc_ecma_parser_input.specs.declared.syntax.EsSyntax.{EsSyntax}

abbrev pub setting_of : Syntax → EsSyntax
setting_of (syntax.Es es) = es

-- no proposal is read, and nothing is let pass
abbrev pub plain_setting : EsSyntax
plain_setting = record {
  decorators = false;
  decorators_before_export = false;
  export_default_from = false;
  import_attributes = false;
  allow_return_outside_function = false;
  auto_accessors = false;
  explicit_resource_management = false;
}

abbrev pub plain : Syntax
plain = syntax.Es plain_setting
