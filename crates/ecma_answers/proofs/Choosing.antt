-- Faults that say that a script is a module's text, one at a time.
use Rattle.std.proofs.Common.{◌≡◌, ◌∙◌, ℕ, ◌+◌, ◌<◌, Bool, true, false, ◌||◌, List, [], ◌∷◌, ap, get_or, length, refl, sym, take}
use Rattle.std.specs.List.{list_any}
use Rattle.std.proofs.lemmas.List.{map-append, take_more}
use Rattle.std.proofs.lemmas.List.Folds.{list_any-append}
use Rattle.swc_ecma_parser_error.specs.declared.error.Error.{Error}
use Rattle.swc_ecma_parser_error.specs.Kind.{Fault, fault_of, faults_of, kind_of}
use Rattle.ecma_answers.specs.Chosen.{has_module_fault, is_of_module}

abbrev says : Fault → Bool
says f = is_of_module f.kind

or_false : (b : Bool) → (b || false) ≡ b
or_false true = refl
or_false false = refl

pub says_more : (es : List Error) (i : ℕ) (d : Error) (b c : Bool) → i < length es → b ≡ has_module_fault (faults_of (take i es))
    → c ≡ is_of_module (kind_of (get_or es i d).kind) → (b || c) ≡ has_module_fault (faults_of (take (i + 1) es))
says_more es i d b c h e f =
    let all = ap (λ (z : List Error). has_module_fault (faults_of z)) (take_more es i d h)
    ∙ ap (list_any says) (map-append fault_of (take i es) (get_or es i d ∷ []))
    ∙ list_any-append says (faults_of (take i es)) (fault_of (get_or es i d) ∷ []) in
    ap (λ (z : Bool). z || c) e ∙ ap (λ (z : Bool). has_module_fault (faults_of (take i es)) || z) (f ∙ sym (or_false (is_of_module (kind_of (get_or es i d).kind)))) ∙ sym all
