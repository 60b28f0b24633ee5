-- The scripts, modules and programs that a text spells, in the settings and within the limit that `ecma-parse` reads with.
use Rattle.std.specs.Prelude.{◌≡◌, ℕ, true, false, List, []}
use Rattle.std.specs.Str.{chars}
use Rattle.swc_ecma_parser_input.specs.Setting.{plain_setting, plain}
use Rattle.swc_ecma_parser_input.specs.Place as place
use Rattle.swc_ecma_parser_input.specs.Place.{Place}
use Rattle.swc_ecma_parser_model.specs.Tree.{Tree}
use Rattle.swc_ecma_parser_grammar.specs.Names.{Code}
use Rattle.swc_ecma_parser_grammar.specs.Walk.{walk, env_of}
use Rattle.swc_ecma_parser_grammar.specs.language.Programs as programs
use Rattle.swc_ecma_parser_reader.specs.State.{State}
use Rattle.swc_ecma_parser_state.specs.Opened.{opened}
use Rattle.swc_ecma_parser_module_reader.specs.ProgramEntry.{ReadsProgram}
use Rattle.swc_ecma_parser_module_reader.specs.Programs.{program_code}
use Rattle.swc_ecma_parser_lexer.specs.Source as source
use Rattle.swc_ecma_parser_lexer.specs.Source.{default_context}
use Rattle.swc_ecma_parser_lexer.specs.Tokens.{tokens}
use Rattle.ecma_report.specs.declared.answer.Goal.{Goal}
use Rattle.ecma_report.specs.declared.answer.Goal.TheVariants as goal

-- what stands around a script or a module
abbrev pub outside : Code
outside = record { flags = default_context; setting = plain_setting }

-- a text's tokens, at the positions from 0 on
abbrev pub first_place : List ℕ → Place
first_place text = place.outset (record { 0 = 0 }) (tokens 0 0 false (chars text))

-- a tree that a text spells as a script of the language, at most 1,000 levels deep
unfoldable pub Spells : List ℕ → Tree → Type 0
Spells text x = (d : Place) × programs.Spells 1000 programs.script outside [] x (first_place text) d

-- the same as a module
unfoldable pub SpellsModule : List ℕ → Tree → Type 0
SpellsModule text x = (d : Place) × programs.Spells 1000 programs.«module» outside [] x (first_place text) d

-- the same as a program: a script or a module, whichever it turns out to be
unfoldable pub SpellsProgram : List ℕ → Tree → Type 0
SpellsProgram text x =
    (d : Place) × (ReadsProgram 1000 false outside x (first_place text) d × (walk (env_of (program_code outside) []) x ≡ []))

-- a tree that a text spells as what is asked for
abbrev pub SpellsAs : Goal → List ℕ → Tree → Type 0
SpellsAs goal.Script = Spells
SpellsAs goal.Module = SpellsModule
SpellsAs goal.Program = SpellsProgram

-- a parser of a text, before anything was read
abbrev pub start_of : List ℕ → State
start_of text = opened (source.outset plain (record { 0 = 0 }) (chars text))
