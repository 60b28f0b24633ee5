-- An expression in a place where other forms may stand as well.
use Rattle.std.proofs.Common.{◌≡◌, ap}
use Rattle.swc_ecma_parser_model.specs.Held.{Held}
use Rattle.swc_ecma_parser_ast.specs.Parts.{marked, as_expr}
use Rattle.swc_ecma_parser_ast.specs.View.{view_expr}
use Rattle.swc_ecma_parser_ast.specs.Apart.{kind_expr}
use Rattle.swc_ecma_parser_ast.specs.declared.expr.Expr.{Expr}

pub as_expr_view : (x : Expr Held) → as_expr (view_expr x) ≡ view_expr x
as_expr_view x = ap (λ b. marked b (view_expr x)) (kind_expr x)
