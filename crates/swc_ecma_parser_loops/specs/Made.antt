-- The ends of the rules of `for`, which are functions of their own: what is made behind a body.
use Rattle.std.specs.Prelude.{Bool}
use Rattle.swc_ecma_parser_common.specs.declared.span.Span.{Span}
use Rattle.swc_ecma_parser_model.specs.Tree as tree
use Rattle.swc_ecma_parser_model.specs.Tree.{Tree}
use Rattle.swc_ecma_parser_reader.specs.State.{Reader, ◌>>=◌, pure, since}

-- the tree of a `for` of three parts, from behind its body
abbrev pub made_for : Span → Tree → Tree → Tree → Tree → Reader Tree
made_for start init test next body = do
  span ← since start
  pure (tree.for span init test next body)

-- the tree of a `for` with `in`
abbrev pub made_for_in : Span → Tree → Tree → Tree → Reader Tree
made_for_in start left right body = do
  span ← since start
  pure (tree.for_in span left right body)

-- the tree of a `for` with `of`
abbrev pub made_for_of : Span → Bool → Tree → Tree → Tree → Reader Tree
made_for_of start is_await left right body = do
  span ← since start
  pure (tree.for_of span is_await left right body)
