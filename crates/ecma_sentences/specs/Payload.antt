-- What a fault holds.
use Rattle.std.specs.Prelude.{ℕ, List, [], codes}
use Rattle.swc_ecma_parser_error.specs.declared.error.Error.{Error}
use Rattle.swc_ecma_parser_error.specs.declared.kind.Labelled.{Labelled}
use Rattle.swc_ecma_parser_error.specs.declared.kind.SyntaxError.{SyntaxError, out-SyntaxError}
use Rattle.swc_ecma_parser_error.specs.declared.kind.SyntaxError.TheVariants as kinds
use Rattle.swc_ecma_parser_error.specs.declared.kind.SyntaxError.TheOpen.{SyntaxError-F}

-- what was expected, of a fault that says it
abbrev pub wanted_of : SyntaxError → List ℕ
wanted_of (kinds.Expected texts) = texts.wanted
wanted_of (kinds.Unexpected texts) = texts.wanted
wanted_of k = codes ""

-- what was found in its place, which at the end is `<eof>`
abbrev pub found_of : SyntaxError → List ℕ
found_of (kinds.Expected texts) = texts.found
found_of (kinds.Unexpected texts) = texts.found
found_of k = codes ""

abbrev pub inner_in : SyntaxError-F SyntaxError Error Labelled → Error → Error
inner_in (SyntaxError-F.WithLabel labelled) e = labelled.inner
inner_in _ e = e

-- a fault itself, or what is wrong in the condition that it speaks of
abbrev pub inner_of : Error → Error
inner_of e = inner_in (out-SyntaxError e.kind) e
