-- What the entries for scripts and statements decide: a tree is answered with nothing recorded exactly where the tokens spell it.
use Rattle.std.specs.Prelude.{◌≡◌, ◌≢◌, ◌↔◌, ℕ, Bool, Result, Ok, Err}
use Rattle.swc_ecma_parser_error.specs.declared.error.Error.{Error}
use Rattle.swc_ecma_parser_error.specs.Kind.{kind_of, OutOfMemory}
use Rattle.swc_ecma_parser_input.specs.Place.{Place}
use Rattle.swc_ecma_parser_model.specs.Tree.{Tree}
use Rattle.swc_ecma_parser_grammar.specs.language.Programs as programs
use Rattle.swc_ecma_parser_grammar.specs.language.Programs.{Spells}
use Rattle.swc_ecma_parser_reader.specs.Entry.{statement_entry}
use Rattle.swc_ecma_parser_reader.specs.State.{State}

-- memory did not run out
abbrev pub Lasts : {X : Type 0} → Result X Error → Type 0
Lasts (Ok x) = Unit {0}
Lasts (Err e) = kind_of e.kind ≢ OutOfMemory

-- This tree is the answer, read up to this place, with nothing recorded behind what was.
abbrev pub IsAnswer : {X : Type 0} → (X → Tree) → State → Result X Error → State → Tree → Place → Type 0
IsAnswer view s (Ok y) t x d = (view y ≡ x) × (t.at ≡ d) × (t.faults ≡ s.faults)
IsAnswer view s (Err e) t x d = ⊥

-- Of each tree and each place: it is the answer exactly where the tokens up to there spell it. So at most one is spelled.
abbrev pub Decides : {X : Type 0} → Result X Error → (Answered Spelled : Tree → Place → Type 0) → Type 0
Decides result Answered Spelled = Lasts result → (x : Tree) (d : Place) → Answered x d ↔ Spelled x d

abbrev pub DecidesScript : {X : Type 0} → (X → Tree) → ℕ → State → Result X Error → State → Type 0
DecidesScript view limit s result t = Decides result (IsAnswer view s result t) (λ x d. Spells limit programs.script s.code s.scope.labels x s.at d)

abbrev pub DecidesStatement : {X : Type 0} → (X → Tree) → ℕ → (include_decl top_level : Bool) → State → Result X Error → State → Type 0
DecidesStatement view limit include_decl top_level s result t =
    Decides result (IsAnswer view s result t) (λ x d. Spells limit (statement_entry include_decl top_level) s.code s.scope.labels x s.at d)
