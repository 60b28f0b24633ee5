-- A refusal is the same whatever would have been read.
use Rattle.std.proofs.Common.{◌≡◌, List, [], ◌∷◌, Err}
use Rattle.swc_ecma_parser_common.specs.declared.span.Span.{Span}
use Rattle.swc_ecma_parser_error.specs.Kind.{Fault, Kind}
use Rattle.swc_ecma_parser_token.specs.declared.token.Token.{Token}
use Rattle.swc_ecma_parser_token.specs.declared.token.Token.TheVariants as token
use Rattle.swc_ecma_parser_token.specs.declared.token.TokenAndSpan.{TokenAndSpan}
use Rattle.swc_ecma_parser_reader.specs.State.{State, Outcome, wanted_at, wanted_in, wanted}

module _ {A B : Type 0} (kind : Kind) (s : State) (f : Fault) (t : State) where
  wanted_at_as : (x : Token) (span : Span) → ◌≡◌ {A = Outcome A} (wanted_at kind s x span) (Err (f, t)) → ◌≡◌ {A = Outcome B} (wanted_at kind s x span) (Err (f, t))
  wanted_at_as (token.Error e) span h = cc
  wanted_at_as _ span h = cc

  wanted_in_as : (ts : List TokenAndSpan) → ◌≡◌ {A = Outcome A} (wanted_in kind s ts) (Err (f, t)) → ◌≡◌ {A = Outcome B} (wanted_in kind s ts) (Err (f, t))
  wanted_in_as [] h = cc
  wanted_in_as (x ∷ xs) h = wanted_at_as x.token x.span h

  pub wanted_as : ◌≡◌ {A = Outcome A} (wanted kind s) (Err (f, t)) → ◌≡◌ {A = Outcome B} (wanted kind s) (Err (f, t))
  unfolding wanted
  wanted_as h = wanted_in_as s.at.left h
