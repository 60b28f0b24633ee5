-- The reader of `yield`: ECMA-262, section 15.5.
use Rattle.std.specs.Prelude.{Bool, true, false, ◌&&◌, if◌then◌else◌}
use Rattle.swc_ecma_parser_common.specs.declared.span.Span.{Span}
use Rattle.swc_ecma_parser_token.specs.declared.kind.TokenKind.TheVariants as kind
use Rattle.swc_ecma_parser_input.specs.declared.context.Context.{Context}
use Rattle.swc_ecma_parser_input.specs.Place.{Place}
use Rattle.swc_ecma_parser_model.specs.Tree as tree
use Rattle.swc_ecma_parser_model.specs.Tree.{Tree}
use Rattle.swc_ecma_parser_grammar.specs.Looks.{breaks_at, sees}
use Rattle.swc_ecma_parser_grammar.specs.language.Begins.{begins_expression}
use Rattle.swc_ecma_parser_grammar.specs.language.Goals.{Class, assignment}
use Rattle.swc_ecma_parser_reader.specs.State.{Reader, ◌>>=◌, ◌>>◌, pure, span_here, since, skip, moved}

-- `yield` is a word of its own in generators
unfoldable pub begins_yield : Context → Place → Bool
begins_yield f c = sees kind.Yield c && f.in_generator

unfoldable pub bare_yield : Span → Reader Tree
bare_yield start = do
  span ← since start
  pure (tree.yield span tree.absent false)

module _ (inner : Class → Reader Tree) where
  unfoldable pub yielded : (delegate : Bool) → Span → Reader Tree
  yielded delegate start = do
    e ← inner assignment
    span ← since start
    pure (tree.yield span e delegate)

  -- what is yielded, or the `*` before it, stands on the line of the word
  unfoldable pub behind_yield : Span → Reader Tree
  behind_yield start = λ s.
      if breaks_at s.at then bare_yield start s
      else if sees kind.Mul s.at then yielded true start (moved s)
      else if begins_expression s.code.flags s.at then yielded false start s
      else bare_yield start s

  unfoldable pub yield_expr : Reader Tree
  yield_expr = do
    start ← span_here
    skip
    behind_yield start
