-- A `return`, by what is read behind its word.
use Rattle.std.proofs.Common.{◌≡◌, ◌≢◌, Bool, Result, Ok, Err, ap, subst, sym, ◌∙◌}
use Rattle.swc_ecma_parser_common.specs.declared.span.Span.{Span}
use Rattle.swc_ecma_parser_error.specs.declared.error.Error.{Error}
use Rattle.swc_ecma_parser_error.specs.Kind as faults
use Rattle.swc_ecma_parser_error.specs.Kind.{Fault, fault_of, kind_of}
use Rattle.swc_ecma_parser_grammar.specs.Looks.{span_at}
use Rattle.swc_ecma_parser_model.specs.Tree.{Tree}
use Rattle.swc_ecma_parser_reader.specs.Reader.{may_return, misplaced, after_return, returned, return_stmt}
use Rattle.swc_ecma_parser_reader.specs.State.{State, Outcome, Reader, and_then, pure, moved, GivesAs}

-- a refusal that is handed on is the reader's, where memory is found
pub handed_on : {A : Type 0} (view : A → Tree) (o : Outcome Tree) (r : Result A Error) (y e : Error) (t : State) → r ≡ Err y → y ≡ e
    → (kind_of e.kind ≢ faults.OutOfMemory → o ≡ Err (fault_of e, t)) → GivesAs view o r t
handed_on view o r y e t p q h = subst (λ z. GivesAs view o z t) (sym (p ∙ ap (λ w. Err w) q)) h

module _ {A : Type 0} (view : A → Tree) (e : Reader Tree) (s u v : State) (start : Span) (allowed : Bool) (begins : start ≡ span_at s.at) (taken : u ≡ moved s) (may : allowed ≡ may_return u.code) (r : Result A Error)
    (gives : GivesAs view (returned e start u) r v) where
  is_after : (o : Outcome Tree) → returned e start u ≡ o → return_stmt e s ≡ after_return allowed start o
  unfolding return_stmt
  is_after o h = ap (λ z. after_return (may_return z.code) (span_at s.at) (returned e (span_at s.at) z)) (sym taken)
      ∙ ap (λ z. after_return (may_return u.code) z (returned e z u)) (sym begins)
      ∙ ap (λ z. after_return z start (returned e start u)) (sym may)
      ∙ ap (after_return allowed start) h

  -- it is read, and what is told of it is told
  behind_it : (x : A) (o : Outcome (Unit {0})) → r ≡ Ok x → misplaced allowed start v ≡ o → return_stmt e s ≡ and_then o (λ _. pure (view x))
  behind_it x o k h = is_after (Ok (view x, v)) (subst (λ z. GivesAs view (returned e start u) z v) k gives) ∙ ap (λ z. and_then z (λ _. pure (view x))) h

  pub answered : (x : A) (y : Unit {0}) (w : State) → r ≡ Ok x → misplaced allowed start v ≡ Ok (y, w) → return_stmt e s ≡ Ok (view x, w)
  answered x y w k h = behind_it x (Ok (y, w)) k h

  pub told : (x : A) (f : Fault) (w : State) → r ≡ Ok x → misplaced allowed start v ≡ Err (f, w) → return_stmt e s ≡ Err (f, w)
  told x f w k h = behind_it x (Err (f, w)) k h

  -- it is refused
  pub refuses : (x : Error) (f : Fault) (w : State) → r ≡ Err x → kind_of x.kind ≢ faults.OutOfMemory → after_return allowed start (Err (fault_of x, v)) ≡ Err (f, w) → return_stmt e s ≡ Err (f, w)
  refuses x f w k m h = is_after (Err (fault_of x, v)) (subst (λ z. GivesAs view (returned e start u) z v) k gives m) ∙ h
