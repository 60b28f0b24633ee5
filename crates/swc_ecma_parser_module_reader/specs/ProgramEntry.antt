-- What the entry for programs gives, by the grammar and the walk alone.
use Rattle.std.specs.Prelude.{◌≡◌, ◌≢◌, ℕ, Bool, true, false, ◌||◌, if◌then◌else◌, ◌⊎◌, List, [], ◌++◌, map, Result, Ok, Err}
use Rattle.swc_ecma_parser_error.specs.declared.error.Error.{Error}
use Rattle.swc_ecma_parser_error.specs.Kind.{Fault, fault_of, kind_of, OutOfMemory}
use Rattle.swc_ecma_parser_token.specs.declared.kind.TokenKind.TheVariants as kind
use Rattle.swc_ecma_parser_input.specs.Place.{Place}
use Rattle.swc_ecma_parser_model.specs.Kinds.{is_module_decl}
use Rattle.swc_ecma_parser_model.specs.Tree as tree
use Rattle.swc_ecma_parser_model.specs.Tree.{Tree, Trees, none, also}
use Rattle.swc_ecma_parser_grammar.specs.Looks.{kind_at, has_error_token}
use Rattle.swc_ecma_parser_grammar.specs.Names.{Code}
use Rattle.swc_ecma_parser_grammar.specs.Notes.{notes, as_note}
use Rattle.swc_ecma_parser_grammar.specs.language.Noted.{has_meta}
use Rattle.swc_ecma_parser_grammar.specs.language.Programs as programs
use Rattle.swc_ecma_parser_grammar.specs.language.Programs.{ModuleRule, is_module_code, is_module_program, code_behind}
use Rattle.swc_ecma_parser_grammar.specs.language.Reads.{Reads}
use Rattle.swc_ecma_parser_grammar.specs.Walk.{walk, env_of, tabled, drops}
use Rattle.swc_ecma_parser_reader.specs.Notes.{Notes, notes_with, ◌⊕◌}
use Rattle.swc_ecma_parser_reader.specs.State.{State}
use Rattle.swc_ecma_parser_reader.specs.Entry.{IsSetBack}
use Rattle.swc_ecma_parser_module_reader.specs.Programs.{program_code, program_whole}
use Rattle.swc_ecma_parser_module_reader.specs.Supported.{supported_program, any_led_in, OrderedFor}

-- the walk of a program read in a state
abbrev pub program_walk : State → Tree → List Fault
program_walk s x = walk (env_of (program_code s.code) s.scope.labels) x

-- A program of the language within a limit; a module for certain where something had made it one before. Where nothing had, this
-- is what the entry of the language reads.
abbrev pub ReadsProgram : ℕ → (is_certain : Bool) → Code → Tree → Place → Place → Type 0
ReadsProgram limit is_certain k x c d = ModuleRule (Reads limit) is_certain (program_code k) x c d × (is_module_code (program_code k) x ≡ true → notes x ≡ [])

-- whether an import or an export is among the items
abbrev pub any_module_decl : Trees → Bool
any_module_decl none = false
any_module_decl (also t ts) = is_module_decl t || any_module_decl ts

abbrev pub has_module_decl : Tree → Bool
has_module_decl (tree.module_program s (tree.list ts) shebang) = any_module_decl ts
has_module_decl _ = false

-- what is noted behind a program, where one of its own statements begins with `await`, or none does: a module holds nothing back
abbrev pub noted_behind : Notes → Tree → (awaits : Bool) → Notes
noted_behind h x awaits = if is_module_program x then record { held_back = []; found_module_item = h.found_module_item || (has_meta x || awaits) } else h ⊕ notes_with x awaits

-- An answer: it takes the whole list. Faults were recorded before module code began and behind; where it began, what had been held
-- back was recorded: what the state had, and what the program itself did. Where neither was anything recorded nor did the program
-- hold back anything until it turned out to be a module, the list spells it as a program of the language, its walk is empty, and
-- what was noted are its notes. Where no error token stands and nothing was dropped, the faults of the table among those recorded are
-- the walk's. It is a module where it has an import or an export, or where it is noted that something else made it one.
pub record SoundProgram (limit : ℕ) (s : State) (x : Tree) (t : State) : Type 0 where
  pub code : t.code ≡ code_behind programs.program s.code x
  pub scope : t.scope ≡ s.scope
  pub whole : kind_at t.at ≡ kind.End
  pub before : List Fault
  pub recorded : List Fault
  pub behind : List Fault
  pub faults : t.faults ≡ s.faults ++ (before ++ recorded ++ behind)
  pub held : List Fault
  pub recorded_as : map as_note recorded ≡ (if is_module_program x then s.notes.held_back else []) ++ held
  -- what the program itself held back is of kinds that no walk finds
  pub untabled : tabled held ≡ []
  pub spells : before ++ behind ≡ [] → held ≡ [] → ReadsProgram limit s.notes.found_module_item s.code x s.at t.at × (program_walk s x ≡ [])
  pub walked : has_error_token s.at.left ≡ false → drops (before ++ behind) ≡ false → tabled (before ++ behind) ≡ program_walk s x
  -- whether one of its own statements begins with `await`
  pub awaits : Bool
  pub awaited : (h : before ++ behind ≡ []) (g : held ≡ []) → awaits ≡ (spells h g).0.0.awaits
  pub noted : before ++ behind ≡ [] → held ≡ [] → t.notes ≡ noted_behind s.notes x awaits
  pub found : t.notes.found_module_item ≡ (s.notes.found_module_item || (has_meta x || awaits))
  pub turns : is_module_program x ≡ (has_module_decl x || t.notes.found_module_item)

-- a program of the language within a limit, of supported forms alone, on tokens in order where an export has decorators before it
abbrev pub ReadsSupportedProgram : ℕ → (is_certain : Bool) → Code → Tree → Place → Place → Type 0
ReadsSupportedProgram limit is_certain k x c d = ReadsProgram limit is_certain k x c d × (supported_program x ≡ true) × OrderedFor (any_led_in x) c

-- at most one supported program within a limit spells a list, and it ends in one place
abbrev pub IsOneProgram : Type 0
IsOneProgram = (limit : ℕ) (is_certain : Bool) (k : Code) (x y : Tree) (c d e : Place) → ReadsSupportedProgram limit is_certain k x c d → ReadsSupportedProgram limit is_certain k y c e
    → (x ≡ y) × (d ≡ e)

-- The state after a program, with what was recorded before module code began, where it began, and behind.
abbrev pub program_left : State → Tree → Place → (awaits : Bool) → (before recorded behind : List Fault) → State
program_left s x d awaits before recorded behind =
    record s { at = d; code = code_behind programs.program s.code x; faults = s.faults ++ (before ++ recorded ++ behind); notes = noted_behind s.notes x awaits }

-- This program is the answer, with the faults of the walk and with what had been held back before, if it is a module.
abbrev pub GivesProgram : {X : Type 0} → (X → Tree) → State → Tree → Place → (awaits : Bool) → Result X Error → State → Type 0
GivesProgram view s x d awaits (Ok y) t =
    (before : List Fault) × (recorded : List Fault) × (behind : List Fault) × (before ++ behind ≡ program_walk s x) × (map as_note recorded ≡ (if is_module_program x then s.notes.held_back else []))
    × (view y ≡ x) × (t ≡ program_left s x d awaits before recorded behind)
GivesProgram view s x d awaits (Err e) t = kind_of e.kind ≡ OutOfMemory

-- A supported program within the limit that spells the list is the answer, with the faults of the walk, with what had been held back
-- if it is a module, and with no others, unless memory ran out; where the walk finds some, no error token may stand in the list.
abbrev pub GivesSupportedProgram : {X : Type 0} → (X → Tree) → ℕ → State → Result X Error → State → Type 0
GivesSupportedProgram view limit s result t =
    (x : Tree) (d : Place) (r : ReadsSupportedProgram limit s.notes.found_module_item s.code x s.at d) → (program_walk s x ≡ []) ⊎ (has_error_token s.at.left ≡ false)
    → GivesProgram view s x d r.0.0.awaits result t

-- what the reader answers, with what was held back recorded, or refuses, with the state set back
abbrev pub AnswersProgram : {X : Type 0} → (X → Tree) → ℕ → State → Result X Error → State → Type 0
AnswersProgram view limit s (Ok x) t = (recorded : List Fault) × (program_whole limit recorded s ≡ Ok ((view x, map as_note recorded), t))
AnswersProgram view limit s (Err e) t = kind_of e.kind ≢ OutOfMemory → (recorded : List Fault) × (u : State) × (program_whole limit recorded s ≡ Err (fault_of e, u)) × IsSetBack u t
