-- What a pattern of an array holds, and a parameter: ECMA-262, sections 14.3.3, 13.15.5 and 15.1. Patterns stand above functions,
-- which their leaves and defaults can hold, and this below.
use Rattle.std.specs.Prelude.{◌≡◌}
use Rattle.swc_ecma_parser_token.specs.declared.kind.TokenKind.TheVariants as kind
use Rattle.swc_ecma_parser_input.specs.Place.{Place, after}
use Rattle.swc_ecma_parser_model.specs.Tree as tree
use Rattle.swc_ecma_parser_model.specs.Tree.{Tree}
use Rattle.swc_ecma_parser_grammar.specs.Looks.{kind_at, spanned}
use Rattle.swc_ecma_parser_grammar.specs.Names.{Code}
use Rattle.swc_ecma_parser_grammar.specs.language.Goals.{Goal, Purpose, pattern_goal, element_goal}

-- an element of an array pattern, or a parameter: a pattern with a default or without, or a rest, which has none
pub data PatternItemRule (In : Goal → Type 0) (p : Purpose) (k : Code) (x : Tree) (c d : Place) : Type 0 where
  element_rule : In (element_goal p k x c d) → PatternItemRule In p k x c d
  rest_rule : (y : Tree) → kind_at c ≡ kind.DotDotDot → In (pattern_goal p k y (after c) d) → x ≡ tree.rest_pat (spanned c d) y → PatternItemRule In p k x c d
