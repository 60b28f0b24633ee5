-- Faults, one at a time.
use Rattle.std.proofs.Common.{◌≡◌, ℕ, List, [], ◌∷◌, ◌++◌, ◌+◌, ◌<◌, Result, Err, get_or, length, refl, subst, sym, take}
use Rattle.std.proofs.lemmas.List.{take_more}
use Rattle.std.proofs.lemmas.Slice.Zip.{all_zipped_more}
use Rattle.swc_ecma_parser_error.specs.declared.error.Error.{Error}
use Rattle.ecma_events.specs.declared.early_error.EarlyError.{EarlyError}
use Rattle.ecma_answers.specs.declared.told.Severity.TheVariants as severity
use Rattle.ecma_answers.specs.declared.told.Told.{Told}
use Rattle.ecma_answers.specs.Told.{AreTold, AreToldEarly, IsRefusal, IsTold, IsToldEarly}

pub told_more : (text : List ℕ) (es : List Error) (ts : List Told) (i : ℕ) (d : Error) (t : Told) → i < length es
    → AreTold text (take i es) ts → IsTold text severity.Fault (get_or es i d) t → AreTold text (take (i + 1) es) (ts ++ (t ∷ []))
told_more text es ts i d t b told one =
    subst (λ it. AreTold text it (ts ++ (t ∷ []))) (sym (take_more es i d b)) (all_zipped_more (IsTold text severity.Fault) (take i es) ts (get_or es i d) t told one)

pub early_more : (text : List ℕ) (ks : List EarlyError) (ts : List Told) (i : ℕ) (d : EarlyError) (t : Told) → i < length ks
    → AreToldEarly text (take i ks) ts → IsToldEarly text (get_or ks i d) t → AreToldEarly text (take (i + 1) ks) (ts ++ (t ∷ []))
early_more text ks ts i d t b told one =
    subst (λ it. AreToldEarly text it (ts ++ (t ∷ []))) (sym (take_more ks i d b)) (all_zipped_more (IsToldEarly text) (take i ks) ts (get_or ks i d) t told one)

pub refused : {X : Type 0} (text : List ℕ) (tree : Result X Error) (e : Error) (t : Told) → tree ≡ Err e → IsTold text severity.Refusal e t
    → IsRefusal text tree (t ∷ [])
refused text tree e t h told = subst (λ r. IsRefusal text r (t ∷ [])) (sym h) (t, told, refl)
