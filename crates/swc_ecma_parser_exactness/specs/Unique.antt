-- At most one tree of the language within a limit stands on a list, and it ends in one place.
use Rattle.std.specs.Prelude.{◌≡◌, ℕ, Bool}
use Rattle.swc_ecma_parser_input.specs.Place.{Place}
use Rattle.swc_ecma_parser_model.specs.Tree.{Tree}
use Rattle.swc_ecma_parser_grammar.specs.Names.{Code}
use Rattle.swc_ecma_parser_grammar.specs.language.Programs as programs
use Rattle.swc_ecma_parser_grammar.specs.language.Programs.{ReadsEntry}
use Rattle.swc_ecma_parser_module_reader.specs.ProgramEntry.{ReadsProgram}
use Rattle.swc_ecma_parser_module_reader.specs.Supported.{OrderedFor}
use Rattle.swc_ecma_parser_exactness.specs.Supports.{needs_order_in}

abbrev pub OneScript : Type 0
OneScript = (limit : ℕ) (k : Code) (x y : Tree) (c d e : Place) → ReadsEntry limit programs.script k x c d → ReadsEntry limit programs.script k y c e → (x ≡ y) × (d ≡ e)

-- of tokens in order, where an export begins behind decorators or has some on both sides of its word
abbrev pub OneModule : Type 0
OneModule = (limit : ℕ) (k : Code) (x y : Tree) (c d e : Place) → ReadsEntry limit programs.«module» k x c d → OrderedFor (needs_order_in x) c → ReadsEntry limit programs.«module» k y c e
    → OrderedFor (needs_order_in y) c → (x ≡ y) × (d ≡ e)

abbrev pub OneProgram : Type 0
OneProgram = (limit : ℕ) (is_certain : Bool) (k : Code) (x y : Tree) (c d e : Place) → ReadsProgram limit is_certain k x c d → OrderedFor (needs_order_in x) c → ReadsProgram limit is_certain k y c e
    → OrderedFor (needs_order_in y) c → (x ≡ y) × (d ≡ e)
