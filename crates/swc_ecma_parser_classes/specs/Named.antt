-- A class with its name, as the expression that it is.
use Rattle.swc_ecma_parser_model.specs.Tree as tree
use Rattle.swc_ecma_parser_model.specs.Tree.{Tree}
use Rattle.swc_ecma_parser_model.specs.Forms.{span_of}
use Rattle.swc_ecma_parser_trees.specs.Parts.{part_of}
use Rattle.swc_ecma_parser_shared.specs.Keys.{word_of}
use Rattle.swc_ecma_parser_classes.specs.declared.class.NamedClass.{NamedClass}

abbrev pub class_expr_of : {C : Type 0} → (C → Tree) → NamedClass C → Tree
class_expr_of view x = tree.class_expr (span_of (view x.class)) (part_of word_of x.name) (view x.class)
