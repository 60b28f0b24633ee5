-- The body of an arrow function, as the reader knows it, and the first directive that says it is strict.
use Rattle.std.specs.Prelude.{Option, None}
use Rattle.swc_ecma_parser_common.specs.declared.span.Span.{Span}
use Rattle.swc_ecma_parser_model.specs.Tree.{Tree}
use Rattle.swc_ecma_parser_arrows.specs.declared.arrows.ArrowBody.{ArrowBody}
use Rattle.swc_ecma_parser_arrows.specs.declared.arrows.ArrowBody.TheVariants as body

abbrev pub body_of : {B E : Type 0} → (B → Tree) → (E → Tree) → ArrowBody B E → Tree
body_of block_of expr_of (body.Block x) = block_of x.block
body_of block_of expr_of (body.Expr e) = expr_of e

-- an expression has none
abbrev pub directive_of : {B E : Type 0} → ArrowBody B E → Option Span
directive_of (body.Block x) = x.strict_directive
directive_of (body.Expr e) = None
