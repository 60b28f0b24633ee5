-- The reader of what the head of a loop begins with: an expression that may still become a target, ECMA-262, section 14.7.5.
use Rattle.std.specs.Prelude.{true, if◌then◌else◌, [], ◌∷◌, Ok}
use Rattle.swc_ecma_parser_common.specs.declared.span.Span.{Span}
use Rattle.swc_ecma_parser_error.specs.Kind as faults
use Rattle.swc_ecma_parser_token.specs.declared.kind.TokenKind.TheVariants as kind
use Rattle.swc_ecma_parser_model.specs.Tree.{Tree}
use Rattle.swc_ecma_parser_grammar.specs.Looks.{sees}
use Rattle.swc_ecma_parser_grammar.specs.language.Goals.{Class}
use Rattle.swc_ecma_parser_reader.specs.Methods.{FunctionForm, parameter_form}
use Rattle.swc_ecma_parser_reader.specs.Arrows.{arrow_from}
use Rattle.swc_ecma_parser_reader.specs.State.{Reader, ◌>>=◌, pure, span_here, refuse}
use Rattle.swc_ecma_parser_reader.specs.Expressions.{Cover, done, close, cover_expr, sequence_from}

module _ (inner : Class → Reader Tree) (covers : Reader Cover) (function : FunctionForm → Reader Tree) where
  -- a sequence, behind its first part
  unfoldable pub sequenced : Span → Cover → Reader Cover
  sequenced start v = do
    x ← close v
    y ← sequence_from inner covers function start x
    pure (done y)

  unfoldable pub head_expr : Reader Cover
  head_expr = do
    start ← span_here
    v ← cover_expr inner covers function
    λ s. if sees kind.Comma s.at then sequenced start v s else Ok (v, s)

  -- ---- the same, from behind `async` on

  -- no expression but an arrow function has a name on the line of `async`: `=>` is wanted behind it
  unfoldable pub async_arrow_from : Span → Tree → Reader Tree
  async_arrow_from start p = λ s. if sees kind.Arrow s.at then arrow_from inner function true start (p ∷ []) s else refuse faults.Expected s

  unfoldable pub head_behind_async : Span → Reader Cover
  head_behind_async start = do
    p ← function parameter_form
    x ← async_arrow_from start p
    λ s. if sees kind.Comma s.at then sequenced start (done x) s else Ok (done x, s)
