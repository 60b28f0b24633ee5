-- The figures of a text.
use Rattle.std.specs.Prelude.{◌≡◌, ℕ, false, List, length}
use Rattle.std.specs.Str.{chars}
use Rattle.swc_ecma_parser_lexer.specs.Tokens.{tokens}
use Rattle.swc_ecma_parser_model.specs.Tree.{Tree}
use Rattle.ecma_report.specs.Spelled.{Spells, SpellsModule}
use Rattle.ecma_bench.specs.declared.command.Goal.{Goal}
use Rattle.ecma_bench.specs.declared.command.Goal.TheVariants as goal
use Rattle.ecma_bench.specs.declared.report.Report.{Report}

-- how many tokens a text has
abbrev pub token_count : List ℕ → ℕ
token_count text = length (tokens 0 0 false (chars text))

-- a tree that a text spells as a script or a module
abbrev pub SpellsAs : Goal → List ℕ → Tree → Type 0
SpellsAs goal.Script = Spells
SpellsAs goal.Module = SpellsModule

-- a report tells the bytes and the tokens of a text that spells a tree
pub record Tells (text : List ℕ) (report : Report) : Type 0 where
  pub bytes : report.bytes ≡ length text
  pub tokens : report.tokens ≡ token_count text
  pub tree : Tree
  pub spelled : SpellsAs report.command.goal text tree
