-- What a call is refused with, unless memory ran out: the reader's refusal, and no fault recorded behind those of the reader.
use Rattle.std.specs.Prelude.{◌≡◌, ◌≢◌, ℕ, zero, suc, Bool, true, false, not, ◌&&◌, if◌then◌else◌, List, [], map, Result, Ok, Err, IfErr}
use Rattle.swc_ecma_parser_error.specs.declared.error.Error.{Error}
use Rattle.swc_ecma_parser_error.specs.Kind.{Fault, OutOfMemory, fault_of, kind_of}
use Rattle.swc_ecma_parser_grammar.specs.Notes.{as_note}
use Rattle.swc_ecma_parser_grammar.specs.language.Programs as programs
use Rattle.swc_ecma_parser_grammar.specs.language.Programs.{Entry, at_top}
use Rattle.swc_ecma_parser_reader.specs.DecoratorLevels.{decorated_in}
use Rattle.swc_ecma_parser_reader.specs.Decorators.{Leading, leading}
use Rattle.swc_ecma_parser_reader.specs.Reader.{at_end, script, shebang, whole_stmt}
use Rattle.swc_ecma_parser_reader.specs.State.{State, Outcome, and_then, coded}
use Rattle.swc_ecma_parser_module_reader.specs.Decorated.{begins_decorators}
use Rattle.swc_ecma_parser_module_reader.specs.Entry.{IsEntered}
use Rattle.swc_ecma_parser_module_reader.specs.Items.{held_at, item_whole}
use Rattle.swc_ecma_parser_module_reader.specs.Modules.{module_whole}
use Rattle.swc_ecma_parser_module_reader.specs.Programs.{Front, front, program_code, program_whole}

-- The reader refuses as `e` says. The faults recorded behind the call are those that were recorded by then; in a module's code what was
-- held back by then may stand behind them.
pub record IsRefusal {A : Type 0} (in_module : Bool) (outcome : Outcome A) (e : Error) (t : State) : Type 0 where
  pub stopped : State
  pub refused : outcome ≡ Err (fault_of e, stopped)
  pub faults : in_module ≡ false → t.faults ≡ stopped.faults

-- ---- what had been held back where module code begins

-- behind the statements before, unless they are a script
abbrev pub held_behind : Outcome Front → List Fault
held_behind (Ok p) = if at_end p.1.at && not p.1.notes.found_module_item then [] else p.1.notes.held_back
held_behind (Err e) = []

unfoldable pub program_held : ℕ → State → List Fault
program_held n s = held_behind (and_then (shebang (coded (program_code s.code) s)) (λ first. front n))

-- of an item, behind the decorators before its word
abbrev pub held_behind_list : Outcome Leading → List Fault
held_behind_list (Ok p) = held_at p.1
held_behind_list (Err e) = []

abbrev pub list_held : ℕ → State → List Fault
list_held zero s = []
list_held (suc n) s = held_behind_list (leading (decorated_in n) s)

unfoldable pub item_held : ℕ → State → List Fault
item_held n s = if begins_decorators s.code s.at then list_held n s else held_at s

-- ---- of each entry

-- a module from where its code begins, a program and an item with what had been held back there
abbrev pub IsRefused : (in_module : Bool) → Entry → ℕ → State → Error → State → Type 0
IsRefused b programs.script limit s e t = IsRefusal b (script limit s) e t
IsRefused b programs.«module» limit s e t = (u : State) × IsEntered s u × IsRefusal b (module_whole limit u) e t
IsRefused b programs.program limit s e t = (recorded : List Fault) × (map as_note recorded ≡ program_held limit s) × IsRefusal b (program_whole limit recorded s) e t
IsRefused b programs.module_item limit s e t = (recorded : List Fault) × (map as_note recorded ≡ item_held limit s) × IsRefusal b (item_whole limit recorded s) e t
IsRefused b (programs.stmt top_level) limit s e t = IsRefusal b (whole_stmt limit (at_top false top_level) s) e t
IsRefused b (programs.stmt_list_item top_level) limit s e t = IsRefusal b (whole_stmt limit (at_top true top_level) s) e t

-- an answer, or such a refusal
abbrev pub Refuses : {X : Type 0} → (in_module : Bool) → Entry → ℕ → State → Result X Error → State → Type 0
Refuses b entry limit s result t = IfErr result (λ e. kind_of e.kind ≢ OutOfMemory → IsRefused b entry limit s e t)
