-- Early errors of what was read, one fault and one error at a time.
use Rattle.std.proofs.Common.{◌≡◌, ◌∙◌, ℕ, ◌+◌, ◌<◌, Bool, true, false, ◌||◌, cond, not, List, [], ◌∷◌, ◌++◌, Result, Ok, Err, ap, append-nil, get_or, if◌then◌else◌, length, refl, sym, take}
use Rattle.std.specs.List.{filter}
use Rattle.std.proofs.lemmas.List.{map-append, take_more}
use Rattle.std.proofs.lemmas.List.Elements.{filter_more}
use Rattle.swc_ecma_parser_error.specs.declared.error.Error.{Error}
use Rattle.swc_ecma_parser_error.specs.Kind.{Fault, fault_of, faults_of, kind_of}
use Rattle.swc_ecma_parser_grammar.specs.Walk.{drops, is_dropping}
use Rattle.ecma_events.specs.declared.early_error.EarlyError.{EarlyError}
use Rattle.ecma_early.specs.Early.{early_of}
use Rattle.ecma_answers.specs.Found.{is_of_undeclared, kept}
use Rattle.ecma_answers.specs.declared.parsing.Tree.{Tree}
use Rattle.ecma_answers.specs.Spelled.{view_tree}

abbrev Test : EarlyError → Bool
Test k = not (is_of_undeclared k.kind)

pub kept_more : (ks : List EarlyError) (i : ℕ) (d : EarlyError) (so_far : List EarlyError) → i < length ks → so_far ≡ filter Test (take i ks)
    → is_of_undeclared (get_or ks i d).kind ≡ false → so_far ++ (get_or ks i d ∷ []) ≡ filter Test (take (i + 1) ks)
kept_more ks i d so_far h e k =
    let x = get_or ks i d in
    ap (λ z. z ++ (x ∷ [])) e ∙ (ap (λ (b : Bool). filter Test (take i ks) ++ cond (not b) (x ∷ []) []) (sym k) ∙ sym (filter_more Test ks i d h))

pub skipped_more : (ks : List EarlyError) (i : ℕ) (d : EarlyError) (so_far : List EarlyError) → i < length ks → so_far ≡ filter Test (take i ks)
    → is_of_undeclared (get_or ks i d).kind ≡ true → so_far ≡ filter Test (take (i + 1) ks)
skipped_more ks i d so_far h e k =
    let x = get_or ks i d in
    e ∙ (sym (append-nil (filter Test (take i ks))) ∙ (ap (λ (b : Bool). filter Test (take i ks) ++ cond (not b) (x ∷ []) []) (sym k) ∙ sym (filter_more Test ks i d h)))

if_then : (b c : Bool) → (if b then true else c) ≡ (b || c)
if_then true c = refl
if_then false c = refl

or_false : (b : Bool) → (b || false) ≡ b
or_false true = refl
or_false false = refl

or_assoc : (a b c : Bool) → ((a || b) || c) ≡ (a || (b || c))
or_assoc true b c = refl
or_assoc false b c = refl

drops_append : (fs gs : List Fault) → drops (fs ++ gs) ≡ (drops fs || drops gs)
drops_append [] gs = refl
drops_append (f ∷ fs) gs =
    if_then (is_dropping f.kind) (drops (fs ++ gs)) ∙ (ap (λ z. is_dropping f.kind || z) (drops_append fs gs)
    ∙ (sym (or_assoc (is_dropping f.kind) (drops fs) (drops gs)) ∙ ap (λ z. z || drops gs) (sym (if_then (is_dropping f.kind) (drops fs)))))

pub drops_more : (es : List Error) (i : ℕ) (d : Error) (b c : Bool) → i < length es → b ≡ drops (faults_of (take i es))
    → c ≡ is_dropping (kind_of (get_or es i d).kind) → (b || c) ≡ drops (faults_of (take (i + 1) es))
drops_more es i d b c h e f =
    let last = fault_of (get_or es i d) in
    let one = if_then (is_dropping last.kind) false ∙ or_false (is_dropping last.kind) in
    let all = ap (λ (z : List Error). drops (faults_of z)) (take_more es i d h)
    ∙ (ap drops (map-append fault_of (take i es) (get_or es i d ∷ [])) ∙ drops_append (faults_of (take i es)) (last ∷ [])) in
    ap (λ z. z || c) e ∙ (ap (λ z. drops (faults_of (take i es)) || z) (f ∙ sym one) ∙ sym all)
