-- What a number of levels limits: how deep a tree nests, and nothing else.
use Rattle.std.specs.Prelude.{ℕ, ◌≤◌, ◌↔◌}
use Rattle.swc_ecma_parser_input.specs.Place.{Place}
use Rattle.swc_ecma_parser_model.specs.Tree.{Tree}
use Rattle.swc_ecma_parser_grammar.specs.Names.{Code}
use Rattle.swc_ecma_parser_grammar.specs.Depth.{depth}
use Rattle.swc_ecma_parser_grammar.specs.language.Programs.{Entry, ReadsEntry}

-- what is asked for is read within so many levels exactly where it is read within some and is no deeper than that
abbrev pub LevelsAreDepth : Type 0
LevelsAreDepth = (n : ℕ) (entry : Entry) (k : Code) (x : Tree) (c d : Place) → ReadsEntry n entry k x c d ↔ (((m : ℕ) × ReadsEntry m entry k x c d) × (depth x ≤ n))
