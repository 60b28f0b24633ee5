-- What stands behind an object, as a part of the model's tree.
use Rattle.swc_ecma_parser_model.specs.Tree as tree
use Rattle.swc_ecma_parser_model.specs.Tree.{Tree}
use Rattle.swc_ecma_parser_shared.specs.Keys.{private_of, word_of}
use Rattle.swc_ecma_parser_left_sides.specs.declared.access.Property.{Property}
use Rattle.swc_ecma_parser_left_sides.specs.declared.access.Property.TheVariants as access

abbrev pub property_of : {E : Type 0} → (E → Tree) → Property E → Tree
property_of view (access.Word i) = word_of i
property_of view (access.Private x) = private_of x
property_of view (access.Brackets s e) = tree.computed s (view e)
