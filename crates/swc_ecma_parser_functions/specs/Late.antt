-- What is told of a body that says it is strict, where its parameters are no plain names.
use Rattle.std.specs.Prelude.{List, [], ◌∷◌, Option, Some, None}
use Rattle.swc_ecma_parser_common.specs.declared.span.Span.{Span}
use Rattle.swc_ecma_parser_error.specs.Kind as faults
use Rattle.swc_ecma_parser_error.specs.Kind.{Fault}
use Rattle.swc_ecma_parser_reader.specs.State.{fault_at}

-- the first directive that says so, if there is one
abbrev pub late : Option Span → List Fault
late None = []
late (Some span) = fault_at span faults.IllegalLanguageModeDirective ∷ []
