-- The words that a run is called with.
use Rattle.std.specs.Prelude.{ℕ, List, [], ◌∷◌, Option, Some, None, if◌then◌else◌, string_bytes, codes}
use Rattle.std.specs.Prelude.{String}
use Rattle.std.specs.Str.{bytes_eq}
use Rattle.std.specs.Global.{Global}
use Rattle.ecma_report.specs.declared.answer.Goal.{Goal}
use Rattle.ecma_report.specs.declared.answer.Goal.TheVariants as goal

-- what a word asks for, if it asks for anything
abbrev pub named : List ℕ → Option Goal
named word =
    if bytes_eq word (codes "script") then Some goal.Script
    else if bytes_eq word (codes "module") then Some goal.Module
    else if bytes_eq word (codes "program") then Some goal.Program
    else None

-- what the words ask for: one word alone does, and no word asks for a script
abbrev pub asked : List (String Global) → Option Goal
asked [] = Some goal.Script
asked (word ∷ []) = named (string_bytes word)
asked (word ∷ other ∷ words) = None
