use Rattle.swc_ecma_parser_model.specs.Size.{tree_size}
use Rattle.swc_ecma_parser_ast.specs.View.{view_expr}
use Rattle.swc_ecma_parser_ast_parts.proofs.target.+is_simple.Given as goal

abbrev pub decreases-is_simple : goal.decreases-is_simple
decreases-is_simple l = tree_size (view_expr l.expr.now)
