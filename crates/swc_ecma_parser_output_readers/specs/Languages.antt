-- What stands in the place of a statement, said by its language: which tokens spell which tree there.
use Rattle.std.specs.Prelude.{◌≡◌, ◌↔◌, ℕ, Bool, true, false, ◌&&◌, ◌||◌, List, [], ◌∷◌, Result, Ok, Err}
use Rattle.swc_ecma_parser_error.specs.declared.error.Error.{Error}
use Rattle.swc_ecma_parser_input.specs.Place.{Place}
use Rattle.swc_ecma_parser_model.specs.Tree.{Tree, Text}
use Rattle.swc_ecma_parser_grammar.specs.declared.position.Position.{Position}
use Rattle.swc_ecma_parser_grammar.specs.Names.{Code}
use Rattle.swc_ecma_parser_grammar.specs.language.Items.{directed, directs_on}
use Rattle.swc_ecma_parser_grammar.specs.language.Programs as programs
use Rattle.swc_ecma_parser_grammar.specs.language.Programs.{Spells}
use Rattle.swc_ecma_parser_reader.specs.Entry.{IsBehind, statement_entry}
use Rattle.swc_ecma_parser_reader.specs.State.{State, Reader}
use Rattle.swc_ecma_parser_exactness.specs.Decides.{Lasts}
use Rattle.swc_ecma_parser_exactness.specs.Supports.{Ordered}
use Rattle.swc_ecma_parser_output_readers.specs.Items.{begins_item}

-- A language: within so many levels, in this place, as this code and with these labels around, the tokens between two places spell a
-- tree of which the walk finds nothing.
abbrev pub Language : Type 1
Language = ℕ → Position → Code → (labels : List Text) → Tree → Place → Place → Type 0

-- ---- the languages of the tree's own types

-- a statement
abbrev pub statement_language : Language
statement_language n at k labels x c d = Spells n (statement_entry at.include_decl at.top_level) k labels x c d

-- an item of a module
abbrev pub module_language : Language
module_language n at k labels x c d = Spells n programs.module_item k labels x c d

abbrev pub either_language : (is_first : Bool) → (first second : Language) → Language
either_language true first second = first
either_language false first second = second

-- An item of a module at the top, and elsewhere where an import or export begins, or decorators stand; else a statement.
abbrev pub item_language : Language
item_language n at k labels x c d = either_language ((at.include_decl && at.top_level) || begins_item k c) module_language statement_language n at k labels x c d

-- ---- what a reader has to do with a language

-- It reads this up to a place, with nothing recorded.
abbrev pub IsRead : {A : Type 0} → Reader A → State → A → Place → Type 0
IsRead p s x d = (t : State) × (p s ≡ Ok (x, t)) × (t.at ≡ d) × (t.faults ≡ s.faults)

-- It reads exactly what the language has, of tokens in order: it is sound and complete, and at most one tree is spelled.
abbrev pub IsExact : (in_code : Code → Type 0) → Language → (ℕ → Position → Reader Tree) → Type 0
IsExact in_code language item =
    (n : ℕ) (at : Position) (s : State) (from : ℕ) → in_code s.code → Ordered from s.at → (x : Tree) (d : Place) → IsRead (item n at) s x d ↔ language n at s.code s.scope.labels x s.at d

-- What was read leaves the code and the labels around as they were; tokens were taken, and no recorded fault is lost.
pub record IsLeft (s t : State) : Type 0 where
  pub code : t.code ≡ s.code
  pub labels : t.scope.labels ≡ s.scope.labels
  pub behind : IsBehind s t

abbrev pub Leaves : (in_code : Code → Type 0) → (ℕ → Position → Reader Tree) → Type 0
Leaves in_code item = (n : ℕ) (at : Position) (s : State) (x : Tree) (t : State) → in_code s.code → item n at s ≡ Ok (x, t) → IsLeft s t

-- ---- lists

-- One behind another up to a place where they stop: each in the code that the directives before it leave.
abbrev pub EachSpells : (Code → Tree → Place → Place → Type 0) → (stops : Place → Bool) → Code → (directives : Bool) → List Tree → Place → Place → Type 0
EachSpells Spelled stops k directives [] c d = (d ≡ c) × (stops c ≡ true)
EachSpells Spelled stops k directives (x ∷ xs) c d =
    (stops c ≡ false) × (m : Place) × Spelled k x c m × EachSpells Spelled stops (directed k directives x) (directs_on directives x) xs m d

-- ---- what a call answers

-- This is the answer, read up to this place, with nothing recorded behind what was.
abbrev pub IsAnswerOf : {X A : Type 0} → (X → A) → State → Result X Error → State → A → Place → Type 0
IsAnswerOf view s (Ok y) t x d = (view y ≡ x) × (t.at ≡ d) × (t.faults ≡ s.faults)
IsAnswerOf view s (Err e) t x d = ⊥

-- Of each of it and each place: it is the answer exactly where the tokens up to there spell it, unless memory ran out.
abbrev pub DecidesOf : {X A : Type 0} → (X → A) → State → Result X Error → State → (Spelled : A → Place → Type 0) → Type 0
DecidesOf {A = A} view s result t Spelled = Lasts result → (x : A) (d : Place) → IsAnswerOf view s result t x d ↔ Spelled x d

-- one of a language, from tokens in order and code that it may stand in
abbrev pub DecidesOne : {X : Type 0} → (in_code : Code → Type 0) → Language → (X → Tree) → ℕ → Position → State → Result X Error → State → Type 0
DecidesOne in_code language view n at s result t =
    (from : ℕ) → in_code s.code → Ordered from s.at → DecidesOf view s result t (λ x d. language n at s.code s.scope.labels x s.at d)

-- and a list
abbrev pub DecidesEach : {X : Type 0} → (in_code : Code → Type 0) → Language → (X → List Tree) → ℕ → Position → (stops : Place → Bool) → (directives : Bool) → State → Result X Error → State → Type 0
DecidesEach in_code language view n at stops directives s result t =
    (from : ℕ) → in_code s.code → Ordered from s.at → DecidesOf view s result t (λ xs d. EachSpells (λ k. language n at k s.scope.labels) stops s.code directives xs s.at d)
