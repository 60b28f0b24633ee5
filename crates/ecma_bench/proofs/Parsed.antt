-- What an answer says of the text.
use Rattle.std.proofs.Common.{◌≡◌, ℕ, Bool, true, false, List, [], ◌∷◌, length, Option, Some, None, Result, Ok, Err, refl, sym, ◌∙◌, ap, subst}
use Rattle.std.specs.Prelude.{◌||◌, IfOk, IfErr, IfSome, IsErrAnd, MatchResult, ok_or}
use Rattle.std.specs.Str.{chars}
use Rattle.swc_ecma_parser_common.specs.declared.span.BytePos.{BytePos}
use Rattle.swc_ecma_parser_error.specs.declared.error.Error.{Error}
use Rattle.swc_ecma_parser_error.specs.Kind as kinds
use Rattle.swc_ecma_parser_error.specs.Kind.{faults_of, IsOutOfMemory}
use Rattle.swc_ecma_parser_input.specs.declared.syntax.Syntax.{Syntax}
use Rattle.swc_ecma_parser_input.specs.Place.{Place}
use Rattle.swc_ecma_parser_input.specs.Setting.{plain}
use Rattle.swc_ecma_parser_input.specs.TokenSource.{TokenSource}
use Rattle.swc_ecma_parser_lexer.specs.Ordered.{ordered}
use Rattle.swc_ecma_parser_lexer.specs.Source.{outset}
use Rattle.swc_ecma_parser_model.specs.Held.{Held}
use Rattle.swc_ecma_parser_model.specs.Tree.{Tree}
use Rattle.swc_ecma_parser_ast.specs.declared.program.Program.{Program}
use Rattle.swc_ecma_parser_ast.specs.View.{view_program}
use Rattle.swc_ecma_parser_grammar.specs.language.Programs as programs
use Rattle.swc_ecma_parser_reader.specs.State.{State}
use Rattle.swc_ecma_parser_reader.specs.Entry.{unmarked}
use Rattle.swc_ecma_parser_module_reader.specs.Modules.{module_code}
use Rattle.swc_ecma_parser_module_reader.specs.Entry.{IsEntered}
use Rattle.swc_ecma_parser_module_reader.proofs.Entered.{settled}
use Rattle.swc_ecma_parser_state.specs.Opened.{opened}
use Rattle.swc_ecma_parser_exactness.specs.Decides.{DecidesScript}
use Rattle.swc_ecma_parser_exactness.specs.ModuleDecides.{DecidesModule}
use Rattle.swc_ecma_parser_exactness.specs.Supports.{Ordered}
use Rattle.ecma_report.specs.Spelled.{start_of, outside, first_place, Spells, SpellsModule}
use Rattle.ecma_bench.specs.declared.command.Goal.{Goal}
use Rattle.ecma_bench.specs.declared.command.Goal.TheVariants as goal
use Rattle.ecma_bench.specs.declared.fault.Fault.{Fault}
use Rattle.ecma_bench.specs.declared.fault.Fault.TheVariants as fault
use Rattle.ecma_bench.specs.Faults.{TellsRefusal, TellsWant}
use Rattle.ecma_bench.specs.Figures.{token_count, SpellsAs}

-- faults that are seen as none are none
no_faults : (fs : List Error) → faults_of fs ≡ [] → fs ≡ []
no_faults [] h = refl
no_faults (f ∷ fs) h = cc

-- a refusal that can only be for want of memory tells of that
want_of : (f : Fault) (e : Error) → TellsRefusal e f → (¬ IsOutOfMemory e → ⊥) → TellsWant f
want_of fault.Usage e w n = absurd w
want_of fault.CannotRead e w n = absurd w
want_of fault.TooLong e w n = tt
want_of (fault.Refused low high kind) e w n = n w.0
want_of (fault.Recorded low high kind) e w n = absurd w
want_of fault.CannotReadClock e w n = absurd w
want_of fault.CannotWrite e w n = absurd w
want_of fault.OutOfMemory e w n = tt

-- An answer decides a reading: with no fault beside it a tree is one that is read, and a tree that is read is the answer, unless
-- memory ran out.
abbrev pub Decided : (Tree → Type 0) → Result (Program Held) Error → List kinds.Fault → Type 0
Decided P (Ok y) fs = (fs ≡ [] → P (view_program y)) × ((x : Tree) → P x → (x ≡ view_program y) × (fs ≡ []))
Decided P (Err e) fs = ¬ IsOutOfMemory e → (x : Tree) → P x → ⊥

-- a script
module _ (text : List ℕ) (s t : State) (b : s ≡ start_of text) where
  decided_script : (r : Result (Program Held) Error) → DecidesScript view_program 1000 (unmarked s) r t → Decided (Spells text) r t.faults
  unfolding Spells
  decided_script (Ok y) h = (
    λ n. (t.at, subst (λ o. programs.Spells 1000 programs.script o.code o.scope.labels (view_program y) o.at t.at) b ((h tt (view_program y) t.at).0 (refl, refl, n ∙ sym (ap (λ o. o.faults) b)))),
    λ x p. let (same, at, none) = (h tt x p.0).1 (subst (λ o. programs.Spells 1000 programs.script o.code o.scope.labels x o.at p.0) (sym b) p.1) in (sym same, none ∙ ap (λ o. o.faults) b),
  )
  decided_script (Err e) h = λ m x p. (h m x p.0).1 (subst (λ o. programs.Spells 1000 programs.script o.code o.scope.labels x o.at p.0) (sym b) p.1)

-- a module, from where module code begins
module _ (text : List ℕ) (s t u : State) (b : s ≡ start_of text) (i : IsEntered (unmarked s) u) where
  code : u.code ≡ module_code outside
  code = i.code ∙ ap (λ o. module_code o.code) b

  at : u.at ≡ first_place text
  at = i.at ∙ ap (λ o. o.at) b

  labels : u.scope.labels ≡ []
  labels = ap (λ o. o.labels) i.scope ∙ ap (λ o. o.scope.labels) b

  none_before : u.faults ≡ []
  none_before = settled (unmarked s) u i (ap (λ o. o.notes.held_back) b) ∙ ap (λ o. o.faults) b

  there : (x : Tree) (d : Place) → programs.Spells 1000 programs.«module» outside [] x (first_place text) d → programs.Spells 1000 programs.«module» u.code u.scope.labels x u.at d
  there x d p =
      let q : programs.Spells 1000 programs.«module» u.code [] x u.at d = subst (λ c. programs.Spells 1000 programs.«module» u.code [] x c d) (sym at)
      (subst (λ k. programs.Spells 1000 programs.«module» k [] x (first_place text) d) (sym code) p) in
      subst (λ l. programs.Spells 1000 programs.«module» u.code l x u.at d) (sym labels) q

  back : (x : Tree) (d : Place) → programs.Spells 1000 programs.«module» u.code u.scope.labels x u.at d → programs.Spells 1000 programs.«module» outside [] x (first_place text) d
  back x d p =
      let q : programs.Spells 1000 programs.«module» (module_code outside) u.scope.labels x u.at d = subst (λ k. programs.Spells 1000 programs.«module» k u.scope.labels x u.at d) code p in
      let r : programs.Spells 1000 programs.«module» outside [] x u.at d = subst (λ l. programs.Spells 1000 programs.«module» outside l x u.at d) labels q in
      subst (λ c. programs.Spells 1000 programs.«module» outside [] x c d) at r

  decided_module : (r : Result (Program Held) Error) → DecidesModule view_program 1000 u r t → Decided (SpellsModule text) r t.faults
  unfolding SpellsModule
  decided_module (Ok y) h = (
    λ n. (t.at, back (view_program y) t.at ((h tt (view_program y) t.at).0 (refl, refl, n ∙ sym none_before))),
    λ x p. let (same, at_end, none) = (h tt x p.0).1 (there x p.0 p.1) in (sym same, none ∙ none_before),
  )
  decided_module (Err e) h = λ m x p. (h m x p.0).1 (there x p.0 p.1)

-- what a parser that begins at a text answers decides what is asked for
pub decided_as : (g : Goal) (text : List ℕ) (s t : State) (n : ℕ) (r : Result (Program Held) Error) → s ≡ start_of text → n ≡ 1000
    → (g ≡ goal.Script → DecidesScript view_program n (unmarked s) r t)
    → (g ≡ goal.Module → (from : ℕ) → Ordered from s.at → (u : State) × IsEntered (unmarked s) u × DecidesModule view_program n u r t)
    → Decided (SpellsAs g text) r t.faults
decided_as goal.Script text s t n r b l h k = decided_script text s t b r (subst (λ m. DecidesScript view_program m (unmarked s) r t) l (h refl))
decided_as goal.Module text s t n r b l h k =
    let (u, i, m) = k refl 0 (subst (λ o. Ordered 0 o.at) (sym b) (ordered 0 0 false (chars text))) in
    decided_module text s t u b i r (subst (λ o. DecidesModule view_program o u r t) l m)

-- a tree without faults is one that is read
pub clean_is_read : (P : Tree → Type 0) (answer : Result (Program Held) Error) (faults : List Error) (fs : List kinds.Fault) → Decided P answer fs → faults_of faults ≡ fs
    → (r : Result (Program Held) Fault) → IfOk r (λ y. (answer ≡ Ok y) × (faults ≡ [])) → IfOk r (λ y. P (view_program y))
clean_is_read P answer faults fs h e (Ok y) c = let d : Decided P (Ok y) fs = subst (λ o. Decided P o fs) c.0 h in d.0 (sym e ∙ ap faults_of c.1)
clean_is_read P answer faults fs h e (Err f) c = tt

-- a tree that is read is the answer
pub read_is_clean : (P : Tree → Type 0) (answer : Result (Program Held) Error) (faults : List Error) (fs : List kinds.Fault) → Decided P answer fs → faults_of faults ≡ fs
    → (r : Result (Program Held) Fault) → IfOk answer (λ y. faults ≡ [] → r ≡ Ok y) → IfErr answer (λ error. IsErrAnd r (TellsRefusal error))
    → (x : Tree) → P x → MatchResult r (λ y. x ≡ view_program y) TellsWant
read_is_clean P (Ok y) faults fs h e r c w x p =
    let (same, none) = h.1 x p in
    subst (λ o. MatchResult o (λ z. x ≡ view_program z) TellsWant) (sym (c (no_faults faults (e ∙ none)))) same
read_is_clean P (Err error) faults fs h e (Ok y) c w x p = absurd w
read_is_clean P (Err error) faults fs h e (Err f) c w x p = want_of f error w (λ m. h m x p)

-- neither of two tests holds
pub neither : (a b : Bool) → (a || b) ≡ false → (a ≡ false) × (b ≡ false)
neither true b h = cc
neither false b h = (refl, h)

-- a parser in the plain settings begins at its text
pub begins : (settings : Syntax) (start : BytePos) (text given : List ℕ) → settings ≡ plain → start ≡ record { 0 = 0 } → given ≡ text
    → opened (outset settings start (chars given)) ≡ start_of text
begins settings start text given e f g = rw (e, f, g) refl

-- the tokens that are counted are the text's
pub counted : (o : Option ℕ) (source : TokenSource) (settings : Syntax) (start : BytePos) (text given : List ℕ) → source ≡ outset settings start (chars given) → start ≡ record { 0 = 0 } → given ≡ text
    → IfSome o (λ n. n ≡ length source.left) → IfOk (ok_or o fault.TooLong) (λ n. n ≡ token_count text)
counted (Some n) source settings start text given e f g h =
    let same : length (outset settings start (chars given)).left ≡ token_count text = rw (f, g) refl in
    h ∙ ap (λ o. length o.left) e ∙ same
counted None source settings start text given e f g h = tt
