-- The parts of an array or object as parts of a pattern. A rest is the last of them.
use Rattle.std.specs.Prelude.{Bool, true, false, Option, Some}
use Rattle.swc_ecma_parser_model.specs.Targets.{as_item, as_pattern, as_property, rest_of, simple_target}
use Rattle.swc_ecma_parser_model.specs.Tree as tree
use Rattle.swc_ecma_parser_model.specs.Tree.{Tree}

abbrev pub as_element_at : (last : Bool) → Tree → Option Tree
as_element_at true (tree.element (Some dots) x) = rest_of dots x (as_pattern false x)
as_element_at last x = as_item x

abbrev pub as_property_at : (last : Bool) → Tree → Option Tree
as_property_at true (tree.spread_prop dots x) = rest_of dots x (simple_target x)
as_property_at last x = as_property x
