-- Which of two readings is taken of a text that is to be read as whichever it turns out to be: as a script or as a module.
use Rattle.std.specs.Prelude.{ℕ, Bool, true, false, ◌||◌, if◌then◌else◌, List, [], ◌∷◌, length, nat_le, nat_lt, Result, Ok, Err}
use Rattle.std.specs.List.{list_any}
use Rattle.swc_ecma_parser_error.specs.declared.error.Error.{Error}
use Rattle.swc_ecma_parser_error.specs.Kind.{Fault, Kind, fault_of, faults_of}
use Rattle.swc_ecma_parser_error.specs.Kind as kind
use Rattle.ecma_answers.specs.declared.parsing.Reading.{Reading}

-- what is told of a text: the faults beside a tree, or why there is none; of a fault its kind and its span
abbrev pub Told : Type 0
Told = Result (List Fault) Fault

abbrev pub told_by : {X : Type 0} → Result X Error → List Error → Told
told_by (Ok x) es = Ok (faults_of es)
told_by (Err e) es = Err (fault_of e)

abbrev pub told_of : Reading → Told
told_of r = told_by r.tree r.faults.items

-- a tree and no fault
abbrev pub is_clean : Told → Bool
is_clean (Ok []) = true
is_clean (Ok (f ∷ fs)) = false
is_clean (Err f) = false

-- A fault of a script that says that it is a module's text: it holds an import, an export or `import.meta`, or `await` as an operator where the
-- code of a script has none.
abbrev pub is_of_module : Kind → Bool
is_of_module kind.ImportExportInScript = true
is_of_module kind.ImportMetaInScript = true
is_of_module kind.AwaitParamInAsync = true
is_of_module _ = false

abbrev pub has_module_fault : List Fault → Bool
has_module_fault fs = list_any (λ f. is_of_module f.kind) fs

-- Whether the reading as a module is taken in the place of that as a script. Not where the script is clean; where the module alone is; and where
-- neither is: if what is told of the script says that it is a module's text; if the module alone has a tree; of two trees if the module's has
-- fewer faults; of two refusals if the module's stands at the same place or further on.
abbrev pub prefers_module : (script other : Told) → Bool
prefers_module (Ok fs) (Ok gs) = has_module_fault fs || nat_lt (length gs) (length fs)
prefers_module (Ok fs) (Err g) = has_module_fault fs
prefers_module (Err f) (Ok gs) = true
prefers_module (Err f) (Err g) = is_of_module f.kind || nat_le f.span.lo.0 g.span.lo.0

abbrev pub chosen : (script other : Reading) → Reading
chosen s m = if prefers_module (told_of s) (told_of m) then m else s
