-- Directives, of ECMA-262, "Directive Prologues and the Use Strict Directive" (section 11.2.1).
use Rattle.std.specs.Prelude.{Bool, true, false, ◌||◌, codes}
use Rattle.std.specs.Str.{bytes_eq}
use Rattle.swc_ecma_parser_model.specs.Tree.{Tree, expr_stmt, str, Text}

-- how the directive that turns code strict is written
abbrev pub spells_use_strict : Text → Bool
spells_use_strict raw = bytes_eq raw (codes "'use strict'") || bytes_eq raw (codes "\"use strict\"")

-- an expression statement of a string literal, with no parentheses
abbrev pub is_string_statement : Tree → Bool
is_string_statement (expr_stmt s (str t value raw)) = true
is_string_statement _ = false

abbrev pub is_use_strict : Tree → Bool
is_use_strict (expr_stmt s (str t value raw)) = spells_use_strict raw
is_use_strict _ = false
