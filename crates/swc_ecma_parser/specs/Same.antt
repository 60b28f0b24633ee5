-- Two outcomes of one reading.
use Rattle.std.specs.Prelude.{◌≡◌, ℕ, Bool, true, false, not, ◌&&◌, List, [], ◌∷◌, Result, Ok, Err}
use Rattle.swc_ecma_parser_error.specs.declared.error.Error.{Error}
use Rattle.swc_ecma_parser_error.specs.Kind.{Kind, Fault, WithInStrict, fault_of}
use Rattle.swc_ecma_parser_model.specs.Tree.{Tree}
use Rattle.swc_ecma_parser_grammar.specs.language.Programs as programs
use Rattle.swc_ecma_parser_grammar.specs.language.Programs.{Entry}
use Rattle.swc_ecma_parser_reader.specs.State.{State}
use Rattle.swc_ecma_parser_entries.specs.Refusals.{program_held}

-- the same tree, or the same refusal, its kind and its span; with the same faults recorded
abbrev pub IsSame : {X : Type 0} → (X → Tree) → Result X Error → List Fault → Result X Error → List Fault → Type 0
IsSame view (Ok x) fs (Ok y) gs = (view x ≡ view y) × (fs ≡ gs)
IsSame view (Err e) fs (Err f) gs = (fault_of e ≡ fault_of f) × (fs ≡ gs)
IsSame view (Ok x) fs (Err f) gs = ⊥
IsSame view (Err e) fs (Ok y) gs = ⊥

abbrev pub is_with : Kind → Bool
is_with WithInStrict = true
is_with _ = false

-- none of these faults is that of a `with`
abbrev pub has_no_with : List Fault → Bool
has_no_with [] = true
has_no_with (f ∷ fs) = not (is_with f.kind) && has_no_with fs

-- What never records the fault of a `with` that it had held back itself, of which the reader knows where the word begins alone: any
-- entry but one whose code becomes a module's while it is read, and a program that holds none back until then.
abbrev pub IsSettled : Entry → ℕ → State → Type 0
IsSettled programs.script limit s = Unit {0}
IsSettled programs.«module» limit s = Unit {0}
IsSettled (programs.stmt top_level) limit s = Unit {0}
IsSettled (programs.stmt_list_item top_level) limit s = Unit {0}
IsSettled programs.program limit s = has_no_with (program_held limit s) ≡ true
IsSettled programs.module_item limit s = ⊥
