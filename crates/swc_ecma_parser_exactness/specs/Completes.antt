-- What each entry answers, of every tree of the language within the limit that the tokens have: that tree, with the faults of the
-- walk and no others, unless memory ran out. Where the walk finds some, no error token may stand in the list, or right behind what is
-- read of it; where an export begins behind decorators, or has some on both sides of its word, the tokens stand one behind another.
use Rattle.std.specs.Prelude.{◌≡◌, ℕ, Bool, false, ◌⊎◌, [], Result, Ok}
use Rattle.swc_ecma_parser_error.specs.declared.error.Error.{Error}
use Rattle.swc_ecma_parser_token.specs.declared.kind.TokenKind.TheVariants as kind
use Rattle.swc_ecma_parser_input.specs.Place.{Place}
use Rattle.swc_ecma_parser_model.specs.Tree.{Tree}
use Rattle.swc_ecma_parser_grammar.specs.Looks.{sees, has_error_token}
use Rattle.swc_ecma_parser_grammar.specs.language.Programs as programs
use Rattle.swc_ecma_parser_grammar.specs.language.Programs.{ReadsEntry, script_awaits}
use Rattle.swc_ecma_parser_reader.specs.Entry.{script_walk, script_left, statement_entry, statement_walk, statement_left}
use Rattle.swc_ecma_parser_reader.specs.State.{State, GivesAs}
use Rattle.swc_ecma_parser_module_reader.specs.Entry.{module_walk, module_left}
use Rattle.swc_ecma_parser_module_reader.specs.ItemEntry.{item_walk, GivesItem}
use Rattle.swc_ecma_parser_module_reader.specs.ProgramEntry.{ReadsProgram, program_walk, GivesProgram}
use Rattle.swc_ecma_parser_module_reader.specs.Supported.{OrderedFor}
use Rattle.swc_ecma_parser_exactness.specs.Supports.{needs_order, needs_order_in}

abbrev pub CompletesScript : {X : Type 0} → (X → Tree) → ℕ → State → Result X Error → State → Type 0
CompletesScript view limit s result t =
    (x : Tree) (d : Place) (r : ReadsEntry limit programs.script s.code x s.at d) → (script_walk s x ≡ []) ⊎ (has_error_token s.at.left ≡ false)
    → GivesAs view (Ok (x, script_left s x d (script_awaits limit s.code x s.at d r))) result t

abbrev pub CompletesStatement : {X : Type 0} → (X → Tree) → ℕ → (include_decl top_level : Bool) → State → Result X Error → State → Type 0
CompletesStatement view limit include_decl top_level s result t =
    (x : Tree) (d : Place) → ReadsEntry limit (statement_entry include_decl top_level) s.code x s.at d → (statement_walk s x ≡ []) ⊎ (sees kind.Error d ≡ false)
    → GivesAs view (Ok (x, statement_left top_level s x d)) result t

-- a module, from the state on in which module code begins
abbrev pub CompletesModule : {X : Type 0} → (X → Tree) → ℕ → State → Result X Error → State → Type 0
CompletesModule view limit s result t =
    (x : Tree) (d : Place) (r : ReadsEntry limit programs.«module» s.code x s.at d) → OrderedFor (needs_order_in x) s.at → (module_walk s x ≡ []) ⊎ (has_error_token s.at.left ≡ false)
    → GivesAs view (Ok (x, module_left s x d r.0.awaits)) result t

abbrev pub CompletesItem : {X : Type 0} → (X → Tree) → ℕ → State → Result X Error → State → Type 0
CompletesItem view limit s result t =
    (x : Tree) (d : Place) → ReadsEntry limit programs.module_item s.code x s.at d → OrderedFor (needs_order x) s.at → (item_walk s x ≡ []) ⊎ (sees kind.Error d ≡ false)
    → GivesItem view s x d result t

-- a program, which is a module for certain where something had made it one before
abbrev pub CompletesProgram : {X : Type 0} → (X → Tree) → ℕ → State → Result X Error → State → Type 0
CompletesProgram view limit s result t =
    (x : Tree) (d : Place) (r : ReadsProgram limit s.notes.found_module_item s.code x s.at d) → OrderedFor (needs_order_in x) s.at → (program_walk s x ≡ []) ⊎ (has_error_token s.at.left ≡ false)
    → GivesProgram view s x d r.0.awaits result t
