-- What the entry for modules gives, by the grammar and the walk alone.
use Rattle.std.specs.Prelude.{◌≡◌, ◌≢◌, ℕ, Bool, true, false, ◌||◌, ◌⊎◌, List, [], ◌++◌, map, Result, Ok, Err}
use Rattle.swc_ecma_parser_error.specs.declared.error.Error.{Error}
use Rattle.swc_ecma_parser_error.specs.Kind.{Fault, fault_of, kind_of, OutOfMemory}
use Rattle.swc_ecma_parser_token.specs.declared.kind.TokenKind.TheVariants as kind
use Rattle.swc_ecma_parser_input.specs.Place.{Place}
use Rattle.swc_ecma_parser_model.specs.Tree.{Tree}
use Rattle.swc_ecma_parser_grammar.specs.Looks.{kind_at, has_error_token}
use Rattle.swc_ecma_parser_grammar.specs.Names.{Code}
use Rattle.swc_ecma_parser_grammar.specs.Notes.{as_note}
use Rattle.swc_ecma_parser_grammar.specs.language.Noted.{has_meta}
use Rattle.swc_ecma_parser_grammar.specs.language.Programs as programs
use Rattle.swc_ecma_parser_grammar.specs.language.Programs.{ReadsEntry, Spells}
use Rattle.swc_ecma_parser_grammar.specs.Walk.{walk, env_of, tabled, drops}
use Rattle.swc_ecma_parser_reader.specs.Notes.{notes_with, ◌⊕◌}
use Rattle.swc_ecma_parser_reader.specs.State.{State, GivesAs}
use Rattle.swc_ecma_parser_reader.specs.Entry.{IsSetBack}
use Rattle.swc_ecma_parser_module_reader.specs.Modules.{module_code, module_whole}
use Rattle.swc_ecma_parser_module_reader.specs.Supported.{supported_module, any_led_in, OrderedFor}

-- the walk of a module read in a state
abbrev pub module_walk : State → Tree → List Fault
module_walk s x = walk (env_of (module_code s.code) s.scope.labels) x

-- the state after a module, where one of its own statements begins with `await`, or none does
abbrev pub module_left : State → Tree → Place → (awaits : Bool) → State
module_left s x d awaits = record s { at = d; code = module_code s.code; faults = s.faults ++ module_walk s x; notes = s.notes ⊕ notes_with x awaits }

-- A state in which module code begins: what was held back is recorded.
pub record IsEntered (s u : State) : Type 0 where
  pub code : u.code ≡ module_code s.code
  pub at : u.at ≡ s.at
  pub scope : u.scope ≡ s.scope
  pub notes : u.notes ≡ record s.notes { held_back = [] }
  pub recorded : List Fault
  pub faults : u.faults ≡ s.faults ++ recorded
  pub recorded_as : map as_note recorded ≡ s.notes.held_back

-- An answer: it takes the whole list; where nothing was recorded the list spells it as a module of the language, its walk is empty,
-- and what was noted are its notes; and where no error token stands and nothing was dropped, the faults of the table among those
-- recorded are the walk's.
pub record SoundModule (limit : ℕ) (s : State) (x : Tree) (t : State) : Type 0 where
  pub code : t.code ≡ module_code s.code
  pub scope : t.scope ≡ s.scope
  pub whole : kind_at t.at ≡ kind.End
  pub added : List Fault
  pub faults : t.faults ≡ s.faults ++ added
  pub spells : added ≡ [] → Spells limit programs.«module» s.code s.scope.labels x s.at t.at
  pub walked : has_error_token s.at.left ≡ false → drops added ≡ false → tabled added ≡ module_walk s x
  -- whether one of its own statements begins with `await`
  pub awaits : Bool
  pub awaited : (h : added ≡ []) → awaits ≡ (spells h).0.0.awaits
  pub noted : added ≡ [] → t.notes ≡ s.notes ⊕ notes_with x awaits
  pub found : t.notes.found_module_item ≡ (s.notes.found_module_item || (has_meta x || awaits))

-- a module of the language within a limit, of supported forms alone, on tokens in order where an export has decorators before it
abbrev pub ReadsSupportedModule : ℕ → Code → Tree → Place → Place → Type 0
ReadsSupportedModule limit k x c d = ReadsEntry limit programs.«module» k x c d × (supported_module x ≡ true) × OrderedFor (any_led_in x) c

-- at most one supported module within a limit spells a list, and it ends in one place
abbrev pub IsOneModule : Type 0
IsOneModule = (limit : ℕ) (k : Code) (x y : Tree) (c d e : Place) → ReadsSupportedModule limit k x c d → ReadsSupportedModule limit k y c e → (x ≡ y) × (d ≡ e)

-- A supported module within the limit that spells the list is the answer, with the faults of the walk and no others, unless memory
-- ran out; where the walk finds some, no error token may stand in the list.
abbrev pub GivesSupportedModule : {X : Type 0} → (X → Tree) → ℕ → State → Result X Error → State → Type 0
GivesSupportedModule view limit s result t =
    (x : Tree) (d : Place) (r : ReadsSupportedModule limit s.code x s.at d) → (module_walk s x ≡ []) ⊎ (has_error_token s.at.left ≡ false)
    → GivesAs view (Ok (x, module_left s x d r.0.0.awaits)) result t

-- what the reader answers, or refuses, with the state set back
abbrev pub AnswersModule : {X : Type 0} → (X → Tree) → ℕ → State → Result X Error → State → Type 0
AnswersModule view limit s (Ok x) t = module_whole limit s ≡ Ok (view x, t)
AnswersModule view limit s (Err e) t = kind_of e.kind ≢ OutOfMemory → (u : State) × (module_whole limit s ≡ Err (fault_of e, u)) × IsSetBack u t
