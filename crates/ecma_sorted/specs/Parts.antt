-- The statement that a part holds.
use Rattle.ecma_sorted.specs.declared.part.Part.{Part}
use Rattle.ecma_sorted.specs.declared.part.Part.TheVariants as part
use Rattle.swc_ecma_parser_ast.specs.View.{view_decl, view_stmt}
use Rattle.swc_ecma_parser_model.specs.Tree.{Tree}

abbrev pub view_part : Part → Tree
view_part (part.Declaration x) = view_decl x
view_part (part.Other x) = view_stmt x
