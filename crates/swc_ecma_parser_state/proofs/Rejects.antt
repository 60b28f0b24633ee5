-- Refusals of what was read, by whether an error token stands behind it.
use Rattle.std.proofs.Common.{◌≡◌, false, List, [], ◌∷◌, Some, None, Ok, Err, refl, ap, ◌∙◌}
use Rattle.swc_ecma_parser_error.specs.declared.error.Error.{Error}
use Rattle.swc_ecma_parser_error.specs.Kind.{Fault, fault_of}
use Rattle.swc_ecma_parser_token.specs.declared.token.Token.{Token}
use Rattle.swc_ecma_parser_token.specs.declared.token.Token.TheVariants as token
use Rattle.swc_ecma_parser_token.specs.declared.token.TokenAndSpan.{TokenAndSpan}
use Rattle.swc_ecma_parser_input.specs.TokenSource.{means_out_of_memory}
use Rattle.swc_ecma_parser_reader.specs.State.{State, moved, fault, reject, reject_in, reject_at, refused}
use Rattle.swc_ecma_parser_state.specs.FirstError.{error_of, first_error}

same_error : (d e : Error) → Some d ≡ Some e → d ≡ e
same_error d e h = cc

module _ (A : Type 0) (f : Fault) (s : State) where
  plain_at : (t : Token) → error_of t ≡ None → reject_at {A = A} f s t ≡ Err (f, s)
  plain_at (token.Error e) h = cc
  plain_at _ h = refl

  plain_in : (ts : List TokenAndSpan) → first_error ts ≡ None → reject_in {A = A} f s ts ≡ Err (f, s)
  plain_in [] h = refl
  plain_in (t ∷ ts) h = plain_at t.token h

  pub reject_plain : first_error s.at.left ≡ None → reject {A = A} f s ≡ Err (f, s)
  unfolding reject
  reject_plain h = plain_in s.at.left h

  error_at : (t : Token) (e : Error) → error_of t ≡ Some e → means_out_of_memory e.kind ≡ false → reject_at {A = A} f s t ≡ refused f (fault (fault_of e) (moved s))
  error_at (token.Error d) e h g = let j : d ≡ e = same_error d e h in rw (j, g) refl
  error_at _ e h g = cc

  error_in : (ts : List TokenAndSpan) (e : Error) → first_error ts ≡ Some e → means_out_of_memory e.kind ≡ false → reject_in {A = A} f s ts ≡ refused f (fault (fault_of e) (moved s))
  error_in [] e h g = cc
  error_in (t ∷ ts) e h g = error_at t.token e h g

  reject_error : (e : Error) → first_error s.at.left ≡ Some e → means_out_of_memory e.kind ≡ false → reject {A = A} f s ≡ refused f (fault (fault_of e) (moved s))
  unfolding reject
  reject_error e h g = error_in s.at.left e h g

  pub reject_recorded : (t : State) (e : Error) → first_error s.at.left ≡ Some e → means_out_of_memory e.kind ≡ false → fault (fault_of e) (moved s) ≡ Ok (tt, t) → reject {A = A} f s ≡ Err (f, t)
  reject_recorded t e h g r = reject_error e h g ∙ ap (refused f) r

  pub reject_failed : (e : Error) (p : Fault × State) → first_error s.at.left ≡ Some e → means_out_of_memory e.kind ≡ false → fault (fault_of e) (moved s) ≡ Err p → reject {A = A} f s ≡ Err p
  reject_failed e p h g r = reject_error e h g ∙ ap (refused f) r
