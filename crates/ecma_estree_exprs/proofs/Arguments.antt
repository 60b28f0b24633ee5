-- An argument that is not there.
use Rattle.std.proofs.Common.{◌≡◌, ◌<◌, List, [], ◌∷◌, length, map, refl, arith}
use Rattle.ecma_estree_writer.specs.Estree.{json, argument}
use Rattle.ecma_estree_writer.specs.Parts.{nothing}
use Rattle.ecma_estree_writer.specs.Source.{Source}
use Rattle.swc_ecma_parser_ast.specs.View.{view_expr_or_spread}
use Rattle.swc_ecma_parser_ast.specs.declared.call.ExprOrSpread.{ExprOrSpread}
use Rattle.swc_ecma_parser_model.specs.Held.{Held}
use Rattle.swc_ecma_parser_model.specs.Tree.{listed}

pub no_second : (t : Source) (xs : List (ExprOrSpread Held)) → length xs < 2 → json t (argument 1) (listed (map view_expr_or_spread xs)) ≡ nothing
no_second t [] h = refl
no_second t (x ∷ []) h = refl
no_second t (x ∷ y ∷ ys) h = absurd (omega arith)
