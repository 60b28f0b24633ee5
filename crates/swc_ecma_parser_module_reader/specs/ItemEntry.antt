-- What the entry for one item of a module gives, by the grammar and the walk alone.
use Rattle.std.specs.Prelude.{◌≡◌, ◌≢◌, ℕ, ◌≤◌, true, false, ◌||◌, if◌then◌else◌, ◌⊎◌, List, [], ◌++◌, map, Result, Ok, Err}
use Rattle.swc_ecma_parser_error.specs.declared.error.Error.{Error}
use Rattle.swc_ecma_parser_error.specs.Kind.{Fault, fault_of, kind_of, OutOfMemory}
use Rattle.swc_ecma_parser_token.specs.declared.kind.TokenKind.TheVariants as kind
use Rattle.swc_ecma_parser_input.specs.Place.{Place}
use Rattle.swc_ecma_parser_model.specs.Kinds.{is_module_decl}
use Rattle.swc_ecma_parser_model.specs.Tree.{Tree}
use Rattle.swc_ecma_parser_grammar.specs.Looks.{sees}
use Rattle.swc_ecma_parser_grammar.specs.Names.{Code}
use Rattle.swc_ecma_parser_grammar.specs.Notes.{as_note}
use Rattle.swc_ecma_parser_grammar.specs.language.ModuleItems.{behind_item, begins_with_await}
use Rattle.swc_ecma_parser_grammar.specs.language.Noted.{has_meta}
use Rattle.swc_ecma_parser_grammar.specs.language.Programs as programs
use Rattle.swc_ecma_parser_grammar.specs.language.Programs.{ReadsEntry, Spells}
use Rattle.swc_ecma_parser_grammar.specs.Walk.{walk, env_of, tabled, drops}
use Rattle.swc_ecma_parser_reader.specs.Notes.{Notes, notes_with, ◌⊕◌}
use Rattle.swc_ecma_parser_reader.specs.State.{State}
use Rattle.swc_ecma_parser_reader.specs.Entry.{error_tokens, IsSetBack}
use Rattle.swc_ecma_parser_module_reader.specs.Items.{item_whole}
use Rattle.swc_ecma_parser_module_reader.specs.Supported.{supported_item, is_led, OrderedFor}

-- the walk of an item where it was read
abbrev pub item_walk : State → Tree → List Fault
item_walk s x = walk (env_of s.code s.scope.labels) x

-- what had been held back, of an import or an export
abbrev pub released : State → Tree → Notes
released s x = if is_module_decl x then record s.notes { held_back = [] } else s.notes

-- An answer. An import or an export leaves module code behind it and records what had been held back (`recorded`): what the state
-- had, and what decorators before its word did; a statement leaves the code as it was. Where nothing else was recorded, before that or
-- behind it, and those decorators held back nothing, the tokens up to its end spell it as an item of the language, its walk is empty,
-- and what was noted are its notes. Where no error token was read and nothing was dropped, the faults of the table among those
-- recorded are the walk's; and whatever was recorded, that the code is a module's is noted where the tree says so and where a
-- statement begins with `await`, and nowhere else.
pub record SoundItemAlone (limit : ℕ) (s : State) (x : Tree) (t : State) : Type 0 where
  pub code : t.code ≡ behind_item s.code x
  pub scope : t.scope ≡ s.scope
  pub before : List Fault
  pub recorded : List Fault
  pub behind : List Fault
  pub faults : t.faults ≡ s.faults ++ (before ++ recorded ++ behind)
  pub held : List Fault
  pub recorded_as : map as_note recorded ≡ (if is_module_decl x then s.notes.held_back else []) ++ held
  -- what decorators before its word held back is of kinds that no walk finds
  pub untabled : tabled held ≡ []
  -- nothing stands before the word of an import or an export that is no decorator
  pub plain : sees kind.At s.at ≡ false → (before ≡ []) × (held ≡ [])
  -- nor does anything of a statement, which all faults are recorded behind
  pub stated : is_module_decl x ≡ false → (before ≡ []) × (held ≡ [])
  pub spells : before ++ behind ≡ [] → held ≡ [] → Spells limit programs.module_item s.code s.scope.labels x s.at t.at
  -- no error token comes to those that are left, and there are as many where none was read
  pub fewer : error_tokens t.at.left ≤ error_tokens s.at.left
  pub walked : error_tokens s.at.left ≡ error_tokens t.at.left → drops (before ++ behind) ≡ false → tabled (before ++ behind) ≡ item_walk s x
  pub noted : before ++ behind ≡ [] → held ≡ [] → t.notes ≡ released s x ⊕ notes_with x (begins_with_await x s.at)
  pub found : t.notes.found_module_item ≡ (s.notes.found_module_item || (has_meta x || begins_with_await x s.at))

-- an item of the language within a limit, of supported forms alone, on tokens in order where it has decorators before its word
abbrev pub ReadsSupportedItem : ℕ → Code → Tree → Place → Place → Type 0
ReadsSupportedItem limit k x c d = ReadsEntry limit programs.module_item k x c d × (supported_item x ≡ true) × OrderedFor (is_led x) c

-- the state after it, with what was recorded before module code began, of what had been held back, and behind
abbrev pub item_left : State → Tree → Place → (before recorded behind : List Fault) → State
item_left s x d before recorded behind =
    record s { at = d; code = behind_item s.code x; faults = s.faults ++ (before ++ recorded ++ behind); notes = released s x ⊕ notes_with x (begins_with_await x s.at) }

-- This item is the answer, with the faults of the walk and what had been held back, if it is an import or an export: behind the
-- faults of the decorators before its word.
abbrev pub GivesItem : {X : Type 0} → (X → Tree) → State → Tree → Place → Result X Error → State → Type 0
GivesItem view s x d (Ok y) t =
    (before : List Fault) × (recorded : List Fault) × (behind : List Fault) × (before ++ behind ≡ item_walk s x) × (sees kind.At s.at ≡ false → before ≡ [])
    × (map as_note recorded ≡ (if is_module_decl x then s.notes.held_back else [])) × (view y ≡ x) × (t ≡ item_left s x d before recorded behind)
GivesItem view s x d (Err e) t = kind_of e.kind ≡ OutOfMemory

-- A supported item within the limit that tokens from here on spell is the answer, and they are what is read, unless memory ran out;
-- where the walk finds faults, no error token may stand right behind them.
abbrev pub GivesSupportedItem : {X : Type 0} → (X → Tree) → ℕ → State → Result X Error → State → Type 0
GivesSupportedItem view limit s result t =
    (x : Tree) (d : Place) → ReadsSupportedItem limit s.code x s.at d → (item_walk s x ≡ []) ⊎ (sees kind.Error d ≡ false) → GivesItem view s x d result t

-- What the reader answers, with what was held back recorded where module code begins, or refuses, with the state set back.
abbrev pub AnswersItem : {X : Type 0} → (X → Tree) → ℕ → State → Result X Error → State → Type 0
AnswersItem view limit s (Ok x) t = (recorded : List Fault) × (item_whole limit recorded s ≡ Ok ((view x, map as_note recorded), t))
AnswersItem view limit s (Err e) t = kind_of e.kind ≢ OutOfMemory → (recorded : List Fault) × (u : State) × (item_whole limit recorded s ≡ Err (fault_of e, u)) × IsSetBack u t
