-- What a clean report of a module says of the text.
use Rattle.std.proofs.Common.{◌≡◌, List, [], Result, Ok, Err, refl, sym, ◌∙◌, ap, subst}
use Rattle.std.specs.Prelude.{IfOk, IfErr, ℕ}
use Rattle.swc_ecma_parser_error.specs.declared.error.Error.{Error}
use Rattle.swc_ecma_parser_error.specs.Kind.{Fault, IsOutOfMemory}
use Rattle.swc_ecma_parser_input.specs.Place.{Place}
use Rattle.swc_ecma_parser_model.specs.Held.{Held}
use Rattle.swc_ecma_parser_model.specs.Tree.{Tree}
use Rattle.swc_ecma_parser_ast.specs.declared.program.Module.{Module}
use Rattle.swc_ecma_parser_ast.specs.View.{view_module}
use Rattle.swc_ecma_parser_grammar.specs.language.Programs as programs
use Rattle.swc_ecma_parser_reader.specs.State.{State}
use Rattle.swc_ecma_parser_reader.specs.Entry.{unmarked}
use Rattle.swc_ecma_parser_module_reader.specs.Modules.{module_code}
use Rattle.swc_ecma_parser_module_reader.specs.Entry.{IsEntered}
use Rattle.swc_ecma_parser_module_reader.proofs.Entered.{settled}
use Rattle.swc_ecma_parser_exactness.specs.ModuleDecides.{DecidesModule}
use Rattle.ecma_report.specs.declared.answer.Verdict.TheVariants as verdict
use Rattle.ecma_report.specs.Lines.{seen, answer_lines}
use Rattle.ecma_report.specs.Spelled.{start_of, SpellsModule, outside, first_place}
use Rattle.ecma_report.specs.Verdicts.{verdict_of}
use Rattle.ecma_report.proofs.Reported.{no_faults}

module _ (text : List ℕ) (s u : State) (e : s ≡ start_of text) (i : IsEntered (unmarked s) u) where
  code : u.code ≡ module_code outside
  code = i.code ∙ ap (λ o. module_code o.code) e

  at : u.at ≡ first_place text
  at = i.at ∙ ap (λ o. o.at) e

  labels : u.scope.labels ≡ []
  labels = ap (λ o. o.labels) i.scope ∙ ap (λ o. o.scope.labels) e

  faults : u.faults ≡ []
  faults = settled (unmarked s) u i (ap (λ o. o.notes.held_back) e) ∙ ap (λ o. o.faults) e

  -- a clean report is of a module that the text spells
  pub clean_module_is_spelled : (t : State) (answer : Result (Module Held) Error) → DecidesModule view_module 1000 u answer t
      → (fs : List Fault) → fs ≡ t.faults → verdict_of (seen view_module answer) fs ≡ verdict.Clean
      → (x : Tree) × SpellsModule text x × (answer_lines (seen view_module answer) fs ≡ answer_lines (Ok x) [])
  unfolding SpellsModule
  clean_module_is_spelled t (Ok tree) h fs g v =
      let x = view_module tree in
      let n = no_faults x fs v in
      let none : t.faults ≡ u.faults = sym g ∙ n ∙ sym faults in
      let p : programs.Spells 1000 programs.«module» u.code u.scope.labels x u.at t.at = (h tt x t.at).0 (refl, refl, none) in
      let q : programs.Spells 1000 programs.«module» (module_code outside) u.scope.labels x u.at t.at = subst (λ k. programs.Spells 1000 programs.«module» k u.scope.labels x u.at t.at) code p in
      let r : programs.Spells 1000 programs.«module» outside [] x u.at t.at = subst (λ l. programs.Spells 1000 programs.«module» outside l x u.at t.at) labels q in
      (x, (t.at, subst (λ c. programs.Spells 1000 programs.«module» outside [] x c t.at) at r), ap (answer_lines (Ok x)) n)
  clean_module_is_spelled t (Err error) h fs g v = cc

  -- what the text spells, from where module code begins
  spelled_there : (x : Tree) (d : Place) → programs.Spells 1000 programs.«module» outside [] x (first_place text) d → programs.Spells 1000 programs.«module» u.code u.scope.labels x u.at d
  spelled_there x d p =
      let q : programs.Spells 1000 programs.«module» u.code [] x u.at d = subst (λ c. programs.Spells 1000 programs.«module» u.code [] x c d) (sym at)
      (subst (λ k. programs.Spells 1000 programs.«module» k [] x (first_place text) d) (sym code) p) in
      subst (λ l. programs.Spells 1000 programs.«module» u.code l x u.at d) (sym labels) q

  -- a module that the text spells is reported, and nothing beside it
  pub spelled_module_is_clean : (t : State) (answer : Result (Module Held) Error) → DecidesModule view_module 1000 u answer t
      → IfErr answer (λ error. ¬ IsOutOfMemory error) → (fs : List Fault) → fs ≡ t.faults → (x : Tree) → SpellsModule text x
      → (verdict_of (seen view_module answer) fs ≡ verdict.Clean) × (answer_lines (seen view_module answer) fs ≡ answer_lines (Ok x) [])
  unfolding SpellsModule
  spelled_module_is_clean t (Ok tree) h m fs g x (d, p) =
      let (y, at_end, none) = (h tt x d).1 (spelled_there x d p) in
      let n : fs ≡ [] = g ∙ none ∙ faults in
      (ap (verdict_of (Ok (view_module tree))) n, ap (λ z. answer_lines (Ok (view_module tree)) z) n ∙ ap (λ z. answer_lines (Ok z) []) y)
  spelled_module_is_clean t (Err error) h m fs g x (d, p) = absurd ((h m x d).1 (spelled_there x d p))
