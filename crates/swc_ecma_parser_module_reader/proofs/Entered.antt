-- A module in a state in which module code begins, as the entry of the parser has it.
use Rattle.std.proofs.Common.{◌≡◌, ℕ, List, [], ◌∷◌, ◌++◌, map, Result, Ok, Err, refl, sym, ◌∙◌, ap, subst, append-nil, append_assoc}
use Rattle.swc_ecma_parser_error.specs.declared.error.Error.{Error}
use Rattle.swc_ecma_parser_error.specs.Kind.{Fault}
use Rattle.swc_ecma_parser_model.specs.Tree.{Tree}
use Rattle.swc_ecma_parser_grammar.specs.Names.{Code}
use Rattle.swc_ecma_parser_grammar.specs.Notes.{as_note}
use Rattle.swc_ecma_parser_reader.specs.State.{Scope, State, Outcome, and_then, coded, flagged}
use Rattle.swc_ecma_parser_reader.specs.Entry.{IsLater, IsBehind, Stays, last_span, unmarked}
use Rattle.swc_ecma_parser_module_reader.specs.Modules.{module_code, module_body, module_whole}
use Rattle.swc_ecma_parser_module_reader.specs.Entry.{IsEntered, AnswersModule}
use Rattle.swc_ecma_parser_module_reader.proofs.ModuleCode.{IsModule}
use Rattle.swc_ecma_parser_module_reader.proofs.Keeps as keeps
use Rattle.swc_ecma_parser_module_reader.proofs.Sound.{body_keeps_code}

-- what is noted of no fault is no fault
pub none_noted : (fs : List Fault) → map as_note fs ≡ [] → fs ≡ []
none_noted [] h = refl
none_noted (f ∷ fs) h = cc

module _ (s u : State) (i : IsEntered s u) where
  -- it is module code already
  pub as_entered : coded (module_code u.code) u ≡ u
  as_entered = ap (λ k. coded k u) (ap module_code i.code ∙ sym i.code)

  -- what the rule answers there is the answer
  pub module_answered : (n : ℕ) (x : Tree) (t : State) → module_body n u ≡ Ok (x, t) → module_whole n u ≡ Ok (x, t)
  unfolding module_whole
  module_answered n x t e =
      ap {A = Outcome Tree} (λ o. and_then o (λ y v. Ok (y, flagged (module_code u.code) v))) (ap (module_body n) as_entered ∙ e)
      ∙ ap (λ k. Ok (x, coded k t)) (same t.code (body_keeps_code n u x t (subst IsModule (sym i.code) (refl, refl)) e ∙ i.code))
    where
      same : (k : Code) → k ≡ module_code s.code → ◌≡◌ {A = Code} (record k { flags = (module_code u.code).flags }) k
      same k h = subst (λ j. ◌≡◌ {A = Code} (record j { flags = (module_code u.code).flags }) j) (sym h)
          (ap {A = Code} (λ j. record (module_code s.code) { flags = (module_code j).flags }) i.code)

  pub module_refused : (n : ℕ) (p : Fault × State) → module_body n u ≡ Err p → module_whole n u ≡ Err p
  unfolding module_whole
  module_refused n p e = ap {A = Outcome Tree} (λ o. and_then o (λ y v. Ok (y, flagged (module_code u.code) v))) (ap (module_body n) as_entered ∙ e)

  -- where nothing was held back nothing is recorded
  pub settled : s.notes.held_back ≡ [] → u.faults ≡ s.faults
  settled e = i.faults ∙ ap (λ z. s.faults ++ z) (none_noted i.recorded (i.recorded_as ∙ e)) ∙ append-nil s.faults

-- ---- what stays

unmarked_as : (s u : State) → u.scope ≡ (unmarked s).scope → unmarked u ≡ u
unmarked_as s u e = ap {A = Scope} (λ w. record u { scope = record w { mark = (unmarked s).scope.mark } }) e ∙ sym (ap {A = Scope} (λ w. record u { scope = w }) e)

since_entered : (s u t : State) → IsLater s.faults u.faults → u.at ≡ s.at → IsBehind u t → IsBehind s t
since_entered s u t (es, e) a b = record {
  added = es ++ b.added;
  faults = b.faults ∙ ap (λ z. z ++ b.added) e ∙ append_assoc s.faults es b.added;
  read = b.read;
  tokens = ap (λ c. c.left) (sym a) ∙ b.tokens;
  last = subst (λ c. t.at.last ≡ last_span c.last b.read) a b.last;
}

pub stays_entered : (X : Type 0) (view : X → Tree) (limit : ℕ) (s u : State) → IsEntered (unmarked s) u → (r : Result X Error) (t : State) → AnswersModule view limit u r t → Stays s r t
stays_entered X view limit s u i r t h = by_answer r (keeps.module_stays X view limit u r t (subst (λ v. AnswersModule view limit v r t) (sym (unmarked_as s u i.scope)) h))
  where
    by_answer : (r : Result X Error) → Stays u r t → Stays s r t
    by_answer (Ok x) g = since_entered s u t (i.recorded, i.faults) i.at g
    by_answer (Err e) g = λ n. since_entered s u t (i.recorded, i.faults) i.at (g n)
