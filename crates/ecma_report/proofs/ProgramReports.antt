-- What a clean report of a program says of the text.
use Rattle.std.proofs.Common.{◌≡◌, Bool, true, false, if◌then◌else◌, List, [], ◌++◌, Result, Ok, Err, refl, sym, ◌∙◌, ap, subst, append-nil}
use Rattle.std.specs.Prelude.{IfOk, IfErr, ℕ}
use Rattle.swc_ecma_parser_error.specs.declared.error.Error.{Error}
use Rattle.swc_ecma_parser_error.specs.Kind.{Fault, IsOutOfMemory}
use Rattle.swc_ecma_parser_model.specs.Held.{Held}
use Rattle.swc_ecma_parser_model.specs.Tree.{Tree}
use Rattle.swc_ecma_parser_ast.specs.declared.program.Program.{Program}
use Rattle.swc_ecma_parser_ast.specs.View.{view_program}
use Rattle.swc_ecma_parser_grammar.specs.Walk.{walk, env_of}
use Rattle.swc_ecma_parser_grammar.specs.language.Programs.{is_module_program}
use Rattle.swc_ecma_parser_reader.specs.State.{State}
use Rattle.swc_ecma_parser_reader.specs.Entry.{unmarked}
use Rattle.swc_ecma_parser_module_reader.specs.Programs.{program_code}
use Rattle.swc_ecma_parser_module_reader.specs.ProgramEntry.{ReadsProgram}
use Rattle.swc_ecma_parser_module_reader.proofs.Entered.{none_noted}
use Rattle.swc_ecma_parser_exactness.specs.ModuleDecides.{DecidesProgram}
use Rattle.ecma_report.specs.declared.answer.Verdict.TheVariants as verdict
use Rattle.ecma_report.specs.Lines.{seen, answer_lines}
use Rattle.ecma_report.specs.Spelled.{start_of, SpellsProgram}
use Rattle.ecma_report.specs.Verdicts.{verdict_of}
use Rattle.ecma_report.proofs.Reported.{no_faults}

-- nothing was held back before, so nothing of it counts
none_held : (b : Bool) (fs : List Fault) → fs ≡ [] → (if b then fs else []) ≡ []
none_held true fs h = h
none_held false fs h = refl

module _ (text : List ℕ) (s t : State) (e : s ≡ start_of text) where
  held_back : s.notes.held_back ≡ []
  held_back = ap (λ o. o.notes.held_back) e

  faults : (unmarked s).faults ≡ []
  faults = ap (λ o. o.faults) e

  -- nothing of it is recorded
  none_released : (b : Bool) → (if b then s.notes.held_back else []) ≡ []
  none_released b = none_held b s.notes.held_back held_back

  -- a clean report is of a program that the text spells
  pub clean_program_is_spelled : (answer : Result (Program Held) Error) → DecidesProgram view_program 1000 (unmarked s) answer t
      → (fs : List Fault) → fs ≡ t.faults → verdict_of (seen view_program answer) fs ≡ verdict.Clean
      → (x : Tree) × SpellsProgram text x × (answer_lines (seen view_program answer) fs ≡ answer_lines (Ok x) [])
  unfolding SpellsProgram
  clean_program_is_spelled (Ok program) h fs g v =
      let x = view_program program in
      let n = no_faults x fs v in
      let none : t.faults ≡ (unmarked s).faults ++ [] = sym g ∙ n ∙ sym faults ∙ sym (append-nil (unmarked s).faults) in
      let p = (h tt x t.at).0 (refl, refl, ([], sym (none_released (is_module_program x)), none)) in (
        x,
        (t.at, subst (λ o. ReadsProgram 1000 o.notes.found_module_item o.code x o.at t.at × (walk (env_of (program_code o.code) o.scope.labels) x ≡ [])) e p),
        ap (answer_lines (Ok x)) n,
      )
  clean_program_is_spelled (Err error) h fs g v = cc

  -- a program that the text spells is reported, and nothing beside it
  pub spelled_program_is_clean : (answer : Result (Program Held) Error) → DecidesProgram view_program 1000 (unmarked s) answer t
      → IfErr answer (λ error. ¬ IsOutOfMemory error) → (fs : List Fault) → fs ≡ t.faults → (x : Tree) → SpellsProgram text x
      → (verdict_of (seen view_program answer) fs ≡ verdict.Clean) × (answer_lines (seen view_program answer) fs ≡ answer_lines (Ok x) [])
  unfolding SpellsProgram
  spelled_program_is_clean (Ok program) h m fs g x (d, p) =
      let q = subst (λ o. ReadsProgram 1000 o.notes.found_module_item o.code x o.at d × (walk (env_of (program_code o.code) o.scope.labels) x ≡ [])) (sym e) p in
      let (y, at_end, released) = (h tt x d).1 q in
      let (recorded, noted, told) = released in
      let within : recorded ≡ [] = none_noted recorded (noted ∙ none_released (is_module_program x)) in
      let n : fs ≡ [] = g ∙ told ∙ ap (λ o. (unmarked s).faults ++ o) within ∙ append-nil (unmarked s).faults ∙ faults in
      (ap (verdict_of (Ok (view_program program))) n, ap (λ z. answer_lines (Ok (view_program program)) z) n ∙ ap (λ z. answer_lines (Ok z) []) y)
  spelled_program_is_clean (Err error) h m fs g x (d, p) =
      let q = subst (λ o. ReadsProgram 1000 o.notes.found_module_item o.code x o.at d × (walk (env_of (program_code o.code) o.scope.labels) x ≡ [])) (sym e) p in
      absurd ((h m x d).1 q)
