-- The faults of a text as a list of JSON, and a tree and faults as one object.
use Rattle.std.specs.Prelude.{◌≡◌, ◌==◌, ◌+◌, ℕ, length, true, false, if◌then◌else◌, List, [], ◌∷◌, ◌++◌, codes, decimal, Result, Ok, Err}
use Rattle.std.specs.List.{flat_map}
use Rattle.swc_ecma_parser_error.specs.declared.error.Error.{Error}
use Rattle.ecma_estree_text.specs.Places.{Placed}
use Rattle.ecma_events.specs.declared.early_error.EarlyError.{EarlyError}
use Rattle.ecma_faults.specs.Early.{early_json}
use Rattle.ecma_faults.specs.Json.{fault_json}
use Rattle.ecma_answers.specs.declared.findings.Findings.{Findings}
use Rattle.ecma_answers.specs.declared.options.Options.{Options}
use Rattle.ecma_answers.specs.declared.parsing.Tree.{Tree}
use Rattle.ecma_answers.specs.Capped.{early_front, front, left_out}
use Rattle.ecma_answers.specs.Spelled.{view_tree}
use Rattle.ecma_answers.specs.Written.{IsEstree}

-- a fault with the word of its severity
abbrev pub fault_text : Placed → (word : List ℕ) → Error → List ℕ
fault_text p word e = fault_json p [] word e

-- one that stands behind another
abbrev pub next_text : Placed → (word : List ℕ) → Error → List ℕ
next_text p word e = codes "," ++ fault_text p word e

-- the faults that were recorded, with commas between them
abbrev pub recorded_text : Placed → List Error → List ℕ
recorded_text p [] = []
recorded_text p (e ∷ es) = fault_text p (codes "fault") e ++ flat_map (next_text p (codes "fault")) es

-- an early error that stands behind something
abbrev pub next_early : Placed → EarlyError → List ℕ
next_early p k = codes "," ++ early_json p [] k

-- early errors, behind the faults that were recorded
abbrev pub early_text : Placed → List Error → List EarlyError → List ℕ
early_text p [] [] = []
early_text p [] (k ∷ ks) = early_json p [] k ++ flat_map (next_early p) ks
early_text p (e ∷ es) ks = flat_map (next_early p) ks

-- why there is no tree, behind all others
abbrev pub refusal_text : {X : Type 0} → Placed → Result X Error → List Error → List EarlyError → List ℕ
refusal_text p (Ok x) es ks = []
refusal_text p (Err e) [] [] = fault_text p (codes "refused") e
refusal_text p (Err e) [] (k ∷ ks) = next_text p (codes "refused") e
refusal_text p (Err e) (f ∷ fs) ks = next_text p (codes "refused") e

-- a text, with its lines
abbrev pub lined : List ℕ → Placed
lined text = record { text = text; has_locations = true; has_ranges = false }

-- faults that were recorded, early errors, and why there is no tree
unfoldable pub told_text : {X : Type 0} → List ℕ → Result X Error → List Error → List EarlyError → List ℕ
told_text text tree es ks =
    codes "[" ++ (recorded_text (lined text) es ++ (early_text (lined text) es ks ++ (refusal_text (lined text) tree es ks ++ codes "]")))

-- the tree, or null where there is none
abbrev pub IsTree : Options → List ℕ → Result Tree Error → List ℕ → Type 0
IsTree o text (Ok x) out = IsEstree o text (view_tree x) out
IsTree o text (Err e) out = out ≡ codes "null"

-- how many more faults there are, if there are more
abbrev pub more_text : ℕ → List ℕ
more_text n = if n == 0 then [] else codes ",\"more\":" ++ decimal n

-- what is told of what was found: as much of it as is asked for
abbrev pub faults_text : Options → List ℕ → Findings → List ℕ
faults_text o text f =
    told_text text f.reading.tree (front o.max_faults f.reading.faults.items) (early_front o.max_faults (length f.reading.faults.items) f.early.items)

-- the tree and the faults as one object, and how many more there are
abbrev pub IsAnswer : Options → List ℕ → Findings → List ℕ → Type 0
IsAnswer o text f out =
    (tree : List ℕ) × IsTree o text f.reading.tree tree
    × (out ≡ codes "{\"tree\":" ++ (tree ++ (codes ",\"faults\":" ++ (faults_text o text f ++ (more_text (left_out o.max_faults (length f.reading.faults.items + length f.early.items)) ++ codes "}")))))
