-- What stands in parentheses, as the reader knows it.
use Rattle.std.specs.Prelude.{map, option_map}
use Rattle.swc_ecma_parser_model.specs.Tree.{Tree}
use Rattle.swc_ecma_parser_reader.specs.Arrows as arrows
use Rattle.swc_ecma_parser_reader.specs.AsyncArrows as async_arrows
use Rattle.swc_ecma_parser_shared.specs.Covers.{cover_of}
use Rattle.swc_ecma_parser_parentheses.specs.declared.arguments.Argument.{Argument}
use Rattle.swc_ecma_parser_parentheses.specs.declared.group.Group.{Group}
use Rattle.swc_ecma_parser_parentheses.specs.declared.group.Parts.{Parts}

abbrev pub parts_of : {E N : Type 0} → (E → Tree) → (N → Tree) → Parts E N → arrows.Parts
parts_of expr_of pat_of g = record { parts = map (cover_of expr_of) g.parts.items; rest = option_map pat_of g.rest; comma = g.comma }

abbrev pub group_of : {E N : Type 0} → (E → Tree) → (N → Tree) → Group E N → arrows.Group
group_of expr_of pat_of g = record { parts = map (cover_of expr_of) g.parts.items; rest = option_map pat_of g.rest; comma = g.comma; first = g.first; last = g.last }

abbrev pub argument_of : {E : Type 0} → (E → Tree) → Argument E → async_arrows.Argument
argument_of expr_of a = record { dots = a.dots; cover = cover_of expr_of a.cover }
