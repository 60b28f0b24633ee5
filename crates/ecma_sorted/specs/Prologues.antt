-- Directive prologues.
use Rattle.std.specs.Prelude.{Bool, false, ◌&&◌, ◌||◌, List, [], ◌∷◌}
use Rattle.swc_ecma_parser_model.specs.Directive.{is_string_statement, is_use_strict}
use Rattle.swc_ecma_parser_model.specs.Tree.{Tree}

-- whether a string that stands first, with only strings before it, is the directive that turns code strict
abbrev pub says_strict : List Tree → Bool
says_strict [] = false
says_strict (x ∷ xs) = is_use_strict x || (is_string_statement x && says_strict xs)
