-- What a clean report says of the text.
use Rattle.std.proofs.Common.{◌≡◌, Bool, true, false, List, [], ◌∷◌, Result, Ok, Err, refl, sym, ◌∙◌, ap, subst}
use Rattle.std.specs.Prelude.{◌||◌, IfOk, IfErr, ℕ, string_bytes}
use Rattle.std.specs.Str.{chars}
use Rattle.swc_ecma_parser_common.specs.declared.span.BytePos.{BytePos}
use Rattle.swc_ecma_parser_error.specs.declared.error.Error.{Error}
use Rattle.swc_ecma_parser_error.specs.Kind.{Fault, IsOutOfMemory}
use Rattle.swc_ecma_parser_input.specs.declared.syntax.Syntax.{Syntax}
use Rattle.swc_ecma_parser_input.specs.Setting.{plain}
use Rattle.swc_ecma_parser_lexer.specs.Ordered.{ordered}
use Rattle.swc_ecma_parser_lexer.specs.Source.{outset}
use Rattle.swc_ecma_parser_model.specs.Held.{Held}
use Rattle.swc_ecma_parser_model.specs.Tree.{Tree}
use Rattle.swc_ecma_parser_ast.specs.declared.script.Script.{Script}
use Rattle.swc_ecma_parser_ast.specs.View.{view_script}
use Rattle.swc_ecma_parser_grammar.specs.language.Programs as programs
use Rattle.swc_ecma_parser_reader.specs.State.{State}
use Rattle.swc_ecma_parser_exactness.specs.Decides.{DecidesScript}
use Rattle.swc_ecma_parser_exactness.specs.Supports.{Ordered}
use Rattle.swc_ecma_parser_state.specs.Opened.{opened}
use Rattle.swc_ecma_parser_reader.specs.Entry.{unmarked}
use Rattle.ecma_report.specs.declared.answer.Verdict.TheVariants as verdict
use Rattle.ecma_report.specs.declared.answer.Report.{Report}
use Rattle.ecma_report.specs.Lines.{seen, answer_lines}
use Rattle.ecma_report.specs.Spelled.{start_of, Spells}
use Rattle.ecma_report.specs.Verdicts.{verdict_of}

-- a tree and no faults beside it
pub no_faults : (x : Tree) (fs : List Fault) → verdict_of (Ok x) fs ≡ verdict.Clean → fs ≡ []
no_faults x [] h = refl
no_faults x (f ∷ fs) h = cc

-- the tokens of a text stand one behind another
pub text_ordered : (text : List ℕ) (s : State) → s ≡ start_of text → Ordered 0 s.at
text_ordered text s e = subst (λ o. Ordered 0 o.at) (sym e) (ordered 0 0 false (chars text))

module _ (text : List ℕ) (t : State) where
  -- a clean report is of a tree that the text spells
  pub clean_is_spelled : (answer : Result (Script Held) Error) (s : State) → s ≡ start_of text → DecidesScript view_script 1000 (unmarked s) answer t
      → (fs : List Fault) → fs ≡ t.faults → verdict_of (seen view_script answer) fs ≡ verdict.Clean → (x : Tree) × Spells text x × (answer_lines (seen view_script answer) fs ≡ answer_lines (Ok x) [])
  unfolding Spells
  clean_is_spelled (Ok script) s e h fs g v =
      let x = view_script script in
      let n = no_faults x fs v in
      let none : t.faults ≡ s.faults = sym g ∙ n ∙ sym (ap (λ o. o.faults) e) in
      let p : programs.Spells 1000 programs.script s.code s.scope.labels x s.at t.at = (h tt x t.at).0 (refl, refl, none) in
      (x, (t.at, subst (λ o. programs.Spells 1000 programs.script o.code o.scope.labels x o.at t.at) e p), ap (answer_lines (Ok x)) n)
  clean_is_spelled (Err error) s e h fs g v = cc

  -- a tree that the text spells is reported, and nothing beside it
  pub spelled_is_clean : (answer : Result (Script Held) Error) (s : State) → s ≡ start_of text → DecidesScript view_script 1000 (unmarked s) answer t
      → IfErr answer (λ error. ¬ IsOutOfMemory error) → (fs : List Fault) → fs ≡ t.faults → (x : Tree) → Spells text x
      → (verdict_of (seen view_script answer) fs ≡ verdict.Clean) × (answer_lines (seen view_script answer) fs ≡ answer_lines (Ok x) [])
  unfolding Spells
  spelled_is_clean (Ok script) s e h m fs g x (d, p) =
      let q : programs.Spells 1000 programs.script s.code s.scope.labels x s.at d = subst (λ o. programs.Spells 1000 programs.script o.code o.scope.labels x o.at d) (sym e) p in
      let (y, at, none) = (h tt x d).1 q in
      let u : fs ≡ [] = g ∙ none ∙ ap (λ o. o.faults) e in
      (ap (verdict_of (Ok (view_script script))) u, ap (λ z. answer_lines (Ok (view_script script)) z) u ∙ ap (λ z. answer_lines (Ok z) []) y)
  spelled_is_clean (Err error) s e h m fs g x (d, p) =
      let q : programs.Spells 1000 programs.script s.code s.scope.labels x s.at d = subst (λ o. programs.Spells 1000 programs.script o.code o.scope.labels x o.at d) (sym e) p in
      absurd ((h m x d).1 q)

-- neither of two tests holds
pub neither : (a b : Bool) → (a || b) ≡ false → (a ≡ false) × (b ≡ false)
neither true b h = cc
neither false b h = (refl, h)

module _ {E : Type 0} where
  -- what holds of the answer holds of its report
  pub clean_report : {P : Tree → Type 0} (r : Result Report E) (a : Result Tree Fault) (fs : List Fault) → IfOk r (λ p. p.verdict ≡ verdict_of a fs) → IfOk r (λ p. string_bytes p.lines ≡ answer_lines a fs)
      → (verdict_of a fs ≡ verdict.Clean → (x : Tree) × P x × (answer_lines a fs ≡ answer_lines (Ok x) []))
      → IfOk r (λ p. p.verdict ≡ verdict.Clean → (x : Tree) × P x × (string_bytes p.lines ≡ answer_lines (Ok x) []))
  clean_report (Ok p) a fs v l h = λ e. let (x, q, k) = h (sym v ∙ e) in (x, q, l ∙ k)
  clean_report (Err e) a fs v l h = tt

  pub spelled_report : (x : Tree) (r : Result Report E) (a : Result Tree Fault) (fs : List Fault) → IfOk r (λ p. p.verdict ≡ verdict_of a fs) → IfOk r (λ p. string_bytes p.lines ≡ answer_lines a fs)
      → IfOk r (λ _. (verdict_of a fs ≡ verdict.Clean) × (answer_lines a fs ≡ answer_lines (Ok x) []))
      → IfOk r (λ p. (p.verdict ≡ verdict.Clean) × (string_bytes p.lines ≡ answer_lines (Ok x) []))
  spelled_report x (Ok p) a fs v l h = (v ∙ h.0, l ∙ h.1)
  spelled_report x (Err e) a fs v l h = tt

  -- where there is a report
  pub reported_with : {P Q : Type 0} (r : Result Report E) → IfOk r (λ _. P) → (P → Q) → IfOk r (λ _. Q)
  reported_with (Ok p) h f = f h
  reported_with (Err e) h f = tt

-- what holds of what is shown, says more of it
pub shown_with : {X E : Type 0} {P Q : X → Type 0} (r : Result X E) → IfOk r P → ((x : X) → P x → Q x) → IfOk r Q
shown_with (Ok x) h f = f x h
shown_with (Err e) h f = tt

-- a parser in the plain settings begins at its text
pub begins : (settings : Syntax) (start : BytePos) (text given : List ℕ) → settings ≡ plain → start ≡ record { 0 = 0 } → given ≡ text
    → opened (outset settings start (chars given)) ≡ start_of text
begins settings start text given e f g = rw (e, f, g) refl
