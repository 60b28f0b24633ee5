-- A refusal of what may still become a pattern is one of an expression.
use Rattle.std.proofs.Common.{◌≡◌, Bool, true, false, if◌then◌else◌, List, [], ◌∷◌, Ok, Err, refl}
use Rattle.swc_ecma_parser_common.specs.declared.span.Span.{Span}
use Rattle.swc_ecma_parser_error.specs.Kind.{Fault, Kind, fault_of}
use Rattle.swc_ecma_parser_token.specs.declared.token.Token.{Token}
use Rattle.swc_ecma_parser_token.specs.declared.token.Token.TheVariants as token
use Rattle.swc_ecma_parser_token.specs.declared.token.TokenAndSpan.{TokenAndSpan}
use Rattle.swc_ecma_parser_input.specs.TokenSource.{means_out_of_memory}
use Rattle.swc_ecma_parser_reader.specs.State.{State, Outcome, and_then, pure, moved, wanted_at, wanted_in, wanted, fault, refused, reject_at, reject_in, reject}
use Rattle.swc_ecma_parser_reader.specs.Expressions as exprs

module _ (kind : Kind) (s : State) where
  wanted_at_cover : (x : Token) (span : Span) → wanted_at kind s x span ≡ and_then (wanted_at kind s x span) (λ y. pure (exprs.done y))
  wanted_at_cover (token.Error e) span = refl
  wanted_at_cover _ span = refl

  wanted_in_cover : (ts : List TokenAndSpan) → wanted_in kind s ts ≡ and_then (wanted_in kind s ts) (λ y. pure (exprs.done y))
  wanted_in_cover [] = refl
  wanted_in_cover (x ∷ xs) = wanted_at_cover x.token x.span

  pub wanted_cover : wanted kind s ≡ and_then (wanted kind s) (λ y. pure (exprs.done y))
  unfolding wanted
  wanted_cover = wanted_in_cover s.at.left

module _ (f : Fault) (s : State) where
  refused_cover : (o : Outcome (Unit {0})) → refused f o ≡ and_then (refused f o) (λ y. pure (exprs.done y))
  refused_cover (Ok p) = refl
  refused_cover (Err g) = refl

  reject_by_cover : (b : Bool) (g : Fault × State) (o : Outcome (Unit {0})) → (if b then Err g else refused f o) ≡ and_then (if b then Err g else refused f o) (λ y. pure (exprs.done y))
  reject_by_cover true g o = refl
  reject_by_cover false g o = refused_cover o

  reject_at_cover : (x : Token) → reject_at f s x ≡ and_then (reject_at f s x) (λ y. pure (exprs.done y))
  reject_at_cover (token.Error x) = reject_by_cover (means_out_of_memory x.kind) (fault_of x, moved s) (fault (fault_of x) (moved s))
  reject_at_cover _ = refl

  reject_in_cover : (ts : List TokenAndSpan) → reject_in f s ts ≡ and_then (reject_in f s ts) (λ y. pure (exprs.done y))
  reject_in_cover [] = refl
  reject_in_cover (x ∷ xs) = reject_at_cover x.token

  pub reject_cover : reject f s ≡ and_then (reject f s) (λ y. pure (exprs.done y))
  unfolding reject
  reject_cover = reject_in_cover s.at.left
