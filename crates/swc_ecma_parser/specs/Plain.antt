-- What `Lexer` hands out is a plain list, so none of the forms that such lists have not is read of a text by it.
use Rattle.std.specs.Prelude.{◌≡◌, ℕ, Bool, true, false, List}
use Rattle.swc_ecma_parser_input.specs.Place.{Place}
use Rattle.swc_ecma_parser_lexer.specs.Tokens.{tokens}
use Rattle.swc_ecma_parser_model.specs.Tree.{Tree}
use Rattle.swc_ecma_parser_grammar.specs.Names.{Code}
use Rattle.swc_ecma_parser_grammar.specs.language.Plain.{plain_list, has_new_form}
use Rattle.swc_ecma_parser_grammar.specs.language.Programs.{Entry, ReadsEntry}

-- the tokens of a text from a place on
abbrev pub TextsArePlain : Type 0
TextsArePlain = (start at : ℕ) (had_line_break : Bool) (cs : List ℕ) → plain_list (tokens start at had_line_break cs) ≡ true

-- a tree that they spell
abbrev pub TreesOfTextsArePlain : Type 0
TreesOfTextsArePlain =
    (n : ℕ) (entry : Entry) (k : Code) (x : Tree) (c d : Place) (start at : ℕ) (had_line_break : Bool) (cs : List ℕ)
    → c.left ≡ tokens start at had_line_break cs → ReadsEntry n entry k x c d → has_new_form x ≡ false
