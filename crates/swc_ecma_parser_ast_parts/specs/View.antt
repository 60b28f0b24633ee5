-- The model of an expression in its handle.
use Rattle.swc_ecma_parser_model.specs.Tree.{Tree}
use Rattle.swc_ecma_parser_ast_parts.specs.declared.made.Made.{Made}

abbrev pub view_made : Made → Tree
view_made x = x.handle.node.tree
