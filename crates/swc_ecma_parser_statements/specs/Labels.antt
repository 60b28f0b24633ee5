-- The label that a statement names, or none.
use Rattle.std.specs.Prelude.{Option}
use Rattle.swc_ecma_parser_model.specs.declared.leaves.Ident.{Ident}
use Rattle.swc_ecma_parser_model.specs.Tree as tree
use Rattle.swc_ecma_parser_model.specs.Tree.{Tree}
use Rattle.swc_ecma_parser_trees.specs.Parts.{part_of}

abbrev pub label_of : Option Ident → Tree
label_of label = part_of (λ n. tree.ident n.span n.sym) label
