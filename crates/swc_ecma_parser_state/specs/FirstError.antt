-- The fault of an error token that stands first.
use Rattle.std.specs.Prelude.{◌≡◌, false, List, [], ◌∷◌, Option, Some, None}
use Rattle.swc_ecma_parser_error.specs.declared.error.Error.{Error}
use Rattle.swc_ecma_parser_token.specs.declared.token.Token.{Token}
use Rattle.swc_ecma_parser_token.specs.declared.token.Token.TheVariants as token
use Rattle.swc_ecma_parser_token.specs.declared.token.TokenAndSpan.{TokenAndSpan}
use Rattle.swc_ecma_parser_input.specs.TokenSource.{means_out_of_memory}
use Rattle.swc_ecma_parser_reader.specs.State.{State, moved}

abbrev pub error_of : Token → Option Error
error_of (token.Error e) = Some e
error_of _ = None

abbrev pub first_error : List TokenAndSpan → Option Error
first_error [] = None
first_error (t ∷ ts) = error_of t.token

-- no error for want of memory
abbrev pub Harmless : Option Error → Type 0
Harmless None = Unit {0}
Harmless (Some e) = means_out_of_memory e.kind ≡ false

-- the state after an error token was taken, if there was one
abbrev pub without : Option Error → State → State
without None s = s
without (Some e) s = moved s
