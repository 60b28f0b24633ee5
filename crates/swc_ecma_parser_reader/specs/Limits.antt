-- Error tokens in a list: which faults they tell; and whether one says that something stands too deep, or that memory ran out.
use Rattle.std.specs.Prelude.{◌≡◌, Bool, true, false, ◌||◌, List, [], ◌∷◌, ◌++◌}
use Rattle.swc_ecma_parser_error.specs.Kind.{Fault, fault_of}
use Rattle.swc_ecma_parser_error.specs.declared.error.Error.{Error}
use Rattle.swc_ecma_parser_error.specs.declared.kind.SyntaxError.{SyntaxError}
use Rattle.swc_ecma_parser_error.specs.declared.kind.SyntaxError.TheVariants as kind
use Rattle.swc_ecma_parser_token.specs.declared.token.Token.{Token}
use Rattle.swc_ecma_parser_token.specs.declared.token.Token.TheVariants as token
use Rattle.swc_ecma_parser_token.specs.declared.token.TokenAndSpan.{TokenAndSpan}
use Rattle.swc_ecma_parser_input.specs.TokenSource.{is_out_of_memory}

-- an error token of the list tells this fault
pub record IsToldBy (ts : List TokenAndSpan) (f : Fault) : Type 0 where
  pub before : List TokenAndSpan
  pub here : TokenAndSpan
  pub behind : List TokenAndSpan
  pub error : Error
  pub stands : ts ≡ before ++ here ∷ behind
  pub tells : here.token ≡ token.Error error
  pub told : f ≡ fault_of error

abbrev pub means_too_deep : SyntaxError → Bool
means_too_deep kind.TooDeep = true
means_too_deep _ = false

abbrev pub is_too_deep : Token → Bool
is_too_deep (token.Error e) = means_too_deep e.kind
is_too_deep _ = false

abbrev pub has_too_deep_token : List TokenAndSpan → Bool
has_too_deep_token [] = false
has_too_deep_token (t ∷ ts) = is_too_deep t.token || has_too_deep_token ts

abbrev pub has_out_of_memory_token : List TokenAndSpan → Bool
has_out_of_memory_token [] = false
has_out_of_memory_token (t ∷ ts) = is_out_of_memory t.token || has_out_of_memory_token ts
