-- The words that a run is called with.
use Rattle.std.specs.Prelude.{ℕ, List, [], ◌∷◌, Option, Some, None, ◌&&◌, if◌then◌else◌, String, string_bytes, codes}
use Rattle.std.specs.Str.{bytes_eq}
use Rattle.std.specs.Global.{Global}
use Rattle.ecma_bench.specs.declared.command.Command.{Command}
use Rattle.ecma_bench.specs.declared.command.Goal.{Goal}
use Rattle.ecma_bench.specs.declared.command.Goal.TheVariants as goal
use Rattle.ecma_bench.specs.declared.command.Source.{Source}
use Rattle.ecma_bench.specs.declared.command.Source.TheVariants as source

-- a file's name, and what it is read as
pub record File : Type 0 where
  pub name : List ℕ
  pub goal : Goal

-- the file that words ask for: `file NAME` for one that is read as a script, `file NAME module` for a module
abbrev pub file_asked : List (String Global) → Option File
file_asked [] = None
file_asked (first ∷ []) = None
file_asked (first ∷ name ∷ []) = if bytes_eq (string_bytes first) (codes "file") then Some (record { name = string_bytes name; goal = goal.Script }) else None
file_asked (first ∷ name ∷ last ∷ []) =
    if bytes_eq (string_bytes first) (codes "file") && bytes_eq (string_bytes last) (codes "module") then Some (record { name = string_bytes name; goal = goal.Module }) else None
file_asked (first ∷ name ∷ last ∷ other ∷ words) = None

-- the file that a text comes from
abbrev pub file_from : Source → Goal → Option File
file_from (source.Made shape bytes) g = None
file_from (source.File name) g = Some (record { name = name.now; goal = g })

-- the file of a command
abbrev pub file_of : Command → Option File
file_of command = file_from command.source command.goal

-- the least length that a source asks for
abbrev pub least_of : Source → ℕ
least_of (source.Made shape bytes) = bytes
least_of (source.File name) = 0
