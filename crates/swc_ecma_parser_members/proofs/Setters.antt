-- What is told of the parameters of a setter.
use Rattle.std.proofs.Common.{◌≡◌, ℕ, suc, arith, Bool, false, List, [], ◌∷◌, length, map, nat_eq, Ok, Err, refl, sym, ap, ◌∙◌}
use Rattle.std.specs.Prelude.{not}
use Rattle.std.proofs.lemmas.Bool.Decides.{nat_tests}
use Rattle.swc_ecma_parser_common.specs.declared.span.Span.{Span}
use Rattle.swc_ecma_parser_error.specs.Kind as faults
use Rattle.swc_ecma_parser_error.specs.Kind.{Fault}
use Rattle.swc_ecma_parser_model.specs.Tree.{Tree}
use Rattle.swc_ecma_parser_grammar.specs.Own.{only}
use Rattle.swc_ecma_parser_reader.specs.State.{State, Outcome, and_then}
use Rattle.swc_ecma_parser_reader.specs.Jumps.{told}
use Rattle.swc_ecma_parser_reader.specs.Methods.{setter_form}
use Rattle.swc_ecma_parser_reader.specs.Members.{rest_faults, parameter_faults}

-- an outcome that answers nothing, with nothing told behind it
told_alone : (o : Outcome (Unit {0})) (fs : Unit {0} → State → Outcome (Unit {0})) → and_then (and_then o (λ _ t. Ok (tt, t))) fs ≡ and_then o fs
told_alone (Ok p) fs = refl
told_alone (Err e) fs = refl

two_or_more : (n : ℕ) → nat_eq (suc (suc n)) 1 ≡ false
two_or_more n = grind (arith, nat_tests)

module _ {A : Type 0} (view : A → Tree) (word : Span) (s : State) where
  -- it has one, which is no rest
  setter_by : (xs : List A) → and_then (told (only (not (nat_eq (length xs) 1)) faults.SetterParam word) s) (λ _. told (rest_faults (map view xs)))
      ≡ told (parameter_faults setter_form word (map view xs)) s
  setter_by [] = told_alone _ (λ _. told [])
  setter_by (x ∷ []) = refl
  setter_by (x ∷ y ∷ ys) = ap (λ c. and_then (told (only (not c) faults.SetterParam word) s) (λ _. told (rest_faults (map view (x ∷ y ∷ ys))))) (two_or_more (length ys))
      ∙ told_alone _ (λ _. told (rest_faults (map view (x ∷ y ∷ ys))))

  module _ (xs : List A) (b : Bool) (counted : b ≡ not (nat_eq (length xs) 1)) where
    setter_from : and_then (told (only b faults.SetterParam word) s) (λ _. told (rest_faults (map view xs))) ≡ told (parameter_faults setter_form word (map view xs)) s
    setter_from = ap (λ c. and_then (told (only c faults.SetterParam word) s) (λ _. told (rest_faults (map view xs)))) counted ∙ setter_by xs

    pub setter_err : (e : Fault × State) → told (only b faults.SetterParam word) s ≡ Err e → told (parameter_faults setter_form word (map view xs)) s ≡ Err e
    setter_err e h = sym setter_from ∙ ap (λ o. and_then o (λ _. told (rest_faults (map view xs)))) h

    pub setter_told : (t : State) → told (only b faults.SetterParam word) s ≡ Ok (tt, t) → told (parameter_faults setter_form word (map view xs)) s ≡ told (rest_faults (map view xs)) t
    setter_told t h = sym setter_from ∙ ap (λ o. and_then o (λ _. told (rest_faults (map view xs)))) h
