-- What begins with `await` before `using` at the beginning of a statement, from behind `await` on: a declaration of the proposal on
-- explicit resource management, or an expression statement, ECMA-262, section 14.5.
use Rattle.std.specs.Prelude.{ℕ, zero, suc, Bool, true, false, not, ◌&&◌, ◌||◌, if◌then◌else◌, Ok, codes}
use Rattle.swc_ecma_parser_common.specs.declared.span.Span.{Span}
use Rattle.swc_ecma_parser_token.specs.declared.kind.TokenKind.TheVariants as kind
use Rattle.swc_ecma_parser_input.specs.Place.{Place, after}
use Rattle.swc_ecma_parser_model.specs.declared.leaves.VarDeclKind.TheVariants as decl
use Rattle.swc_ecma_parser_model.specs.Tree as tree
use Rattle.swc_ecma_parser_model.specs.Tree.{Tree}
use Rattle.swc_ecma_parser_grammar.specs.declared.position.Position.{Position}
use Rattle.swc_ecma_parser_grammar.specs.Looks.{sees, breaks_at}
use Rattle.swc_ecma_parser_grammar.specs.Follows.{word_at}
use Rattle.swc_ecma_parser_grammar.specs.language.Declarations.{is_using_declaration}
use Rattle.swc_ecma_parser_grammar.specs.language.Contexts.{with_in}
use Rattle.swc_ecma_parser_grammar.specs.language.Goals.{Class, unary}
use Rattle.swc_ecma_parser_reader.specs.Methods.{FunctionForm}
use Rattle.swc_ecma_parser_reader.specs.Expressions.{Cover, done, await_allowed, binary_from, behind_operators, sequence_from}
use Rattle.swc_ecma_parser_reader.specs.Reader.{declarators, no_label, note_statement, stmt_end, using_from, expr, cover, pattern, operators, function}
use Rattle.swc_ecma_parser_reader.specs.State.{Reader, pure, since, within, too_deep, ◌>>=◌, ◌>>◌}

-- where such a statement begins: the two words stand on one line
unfoldable pub begins_await_using : Position → Place → Bool
begins_await_using at c = (at.include_decl || at.top_level) && (sees kind.Await c && (word_at (codes "using") (after c) && not (breaks_at (after c))))

module _ (inner : Class → Reader Tree) (covers : Reader Cover) (function : FunctionForm → Reader Tree) (start : Span) where
  -- its operand
  unfoldable pub awaited : Reader Tree
  awaited = do
    await_allowed start
    e ← inner unary
    span ← since start
    pure (tree.await span e)

  unfoldable pub awaited_binary : Reader Tree
  awaited_binary = do
    x ← awaited
    binary_from inner covers 1 start x

  unfoldable pub awaited_operators : Reader Tree
  awaited_operators = do
    x ← awaited_binary
    behind_operators inner covers false start x

  -- it becomes no pattern
  unfoldable pub awaited_expr : Reader Cover
  awaited_expr = do
    x ← awaited_operators
    λ s. if sees kind.Comma s.at then (sequence_from inner covers function start x >>= λ y. pure (done y)) s else Ok (done x, s)

-- in so many levels
unfoldable pub behind_await : ℕ → Span → Reader Cover
behind_await zero start = too_deep
behind_await (suc n) start = awaited_expr (expr n) (cover n) (function n) start

-- an expression statement, from behind the first of its tokens on
unfoldable pub expr_stmt_behind : Reader Cover → (Span → Tree → Reader Tree) → Span → Reader Tree
expr_stmt_behind behind operators start = do
  v ← within with_in behind
  no_label v.x
  note_statement v.x
  x ← stmt_end operators start v.x
  span ← since start
  pure (tree.expr_stmt span x)

-- a declaration before a name on the line of `using`, or an expression statement
unfoldable pub stmt_behind_await : ℕ → Span → Reader Tree
stmt_behind_await n start = λ s.
    if is_using_declaration s.code s.at then using_from (declarators (expr n) (pattern n) false decl.Var) true start s
    else expr_stmt_behind (behind_await n start) (operators n) start s
