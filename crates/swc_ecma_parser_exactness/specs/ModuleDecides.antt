-- What the entries for modules, items of modules and programs decide: a tree is answered with nothing recorded, but for what had been
-- held back, exactly where the tokens spell it.
use Rattle.std.specs.Prelude.{◌≡◌, ℕ, Bool, if◌then◌else◌, List, [], ◌++◌, map, Result, Ok, Err}
use Rattle.swc_ecma_parser_error.specs.declared.error.Error.{Error}
use Rattle.swc_ecma_parser_error.specs.Kind.{Fault}
use Rattle.swc_ecma_parser_input.specs.Place.{Place}
use Rattle.swc_ecma_parser_model.specs.Kinds.{is_module_decl}
use Rattle.swc_ecma_parser_model.specs.Tree.{Tree}
use Rattle.swc_ecma_parser_grammar.specs.Notes.{as_note}
use Rattle.swc_ecma_parser_grammar.specs.language.Programs as programs
use Rattle.swc_ecma_parser_grammar.specs.language.Programs.{is_module_program, Spells}
use Rattle.swc_ecma_parser_reader.specs.State.{State}
use Rattle.swc_ecma_parser_module_reader.specs.ProgramEntry.{ReadsProgram, program_walk}
use Rattle.swc_ecma_parser_exactness.specs.Decides.{IsAnswer, Decides}

-- This tree is the answer, read up to this place, with nothing recorded behind what was but what had been held back, where the tree
-- makes module code.
abbrev pub IsReleased : {X : Type 0} → (X → Tree) → (makes_module : Tree → Bool) → State → Result X Error → State → Tree → Place → Type 0
IsReleased view makes_module s (Ok y) t x d =
    (view y ≡ x) × (t.at ≡ d) × ((recorded : List Fault) × (map as_note recorded ≡ (if makes_module x then s.notes.held_back else [])) × (t.faults ≡ s.faults ++ recorded))
IsReleased view makes_module s (Err e) t x d = ⊥

-- a module, from the state on in which module code begins
abbrev pub DecidesModule : {X : Type 0} → (X → Tree) → ℕ → State → Result X Error → State → Type 0
DecidesModule view limit s result t = Decides result (IsAnswer view s result t) (λ x d. Spells limit programs.«module» s.code s.scope.labels x s.at d)

abbrev pub DecidesItem : {X : Type 0} → (X → Tree) → ℕ → State → Result X Error → State → Type 0
DecidesItem view limit s result t = Decides result (IsReleased view is_module_decl s result t) (λ x d. Spells limit programs.module_item s.code s.scope.labels x s.at d)

-- a program, which is a module for certain where something had made it one before
abbrev pub DecidesProgram : {X : Type 0} → (X → Tree) → ℕ → State → Result X Error → State → Type 0
DecidesProgram view limit s result t =
    Decides result (IsReleased view is_module_program s result t) (λ x d. ReadsProgram limit s.notes.found_module_item s.code x s.at d × (program_walk s x ≡ []))
