-- A refusal of what stands too deep is the same whatever would have been read.
use Rattle.std.proofs.Common.{◌≡◌, List, [], ◌∷◌, Err}
use Rattle.swc_ecma_parser_common.specs.declared.span.Span.{Span}
use Rattle.swc_ecma_parser_error.specs.Kind.{Fault}
use Rattle.swc_ecma_parser_token.specs.declared.token.Token.{Token}
use Rattle.swc_ecma_parser_token.specs.declared.token.Token.TheVariants as token
use Rattle.swc_ecma_parser_token.specs.declared.token.TokenAndSpan.{TokenAndSpan}
use Rattle.swc_ecma_parser_reader.specs.State.{State, Outcome, too_deep_at, too_deep_in, too_deep}

module _ {A B : Type 0} (s : State) (e : Fault × State) where
  too_deep_at_as : (x : Token) (span : Span) → ◌≡◌ {A = Outcome A} (too_deep_at s x span) (Err e) → ◌≡◌ {A = Outcome B} (too_deep_at s x span) (Err e)
  too_deep_at_as (token.Error x) span h = cc
  too_deep_at_as _ span h = cc

  too_deep_in_as : (ts : List TokenAndSpan) → ◌≡◌ {A = Outcome A} (too_deep_in s ts) (Err e) → ◌≡◌ {A = Outcome B} (too_deep_in s ts) (Err e)
  too_deep_in_as [] h = cc
  too_deep_in_as (x ∷ xs) h = too_deep_at_as x.token x.span h

  pub too_deep_as : ◌≡◌ {A = Outcome A} (too_deep s) (Err e) → ◌≡◌ {A = Outcome B} (too_deep s) (Err e)
  unfolding too_deep
  too_deep_as h = too_deep_in_as s.at.left h
