-- The reader of decorators, one behind another: the proposal of decorators. What stands behind `@` is read one level further in than
-- what the decorators belong to, and what stands in its brackets and arguments one more.
use Rattle.std.specs.Prelude.{Bool, true, false, if◌then◌else◌, List, [], ◌∷◌, ◌++◌, Ok}
use Rattle.swc_ecma_parser_common.specs.declared.span.Span.{Span}
use Rattle.swc_ecma_parser_error.specs.Kind as faults
use Rattle.swc_ecma_parser_token.specs.declared.kind.TokenKind.TheVariants as kind
use Rattle.swc_ecma_parser_model.specs.Tree as tree
use Rattle.swc_ecma_parser_model.specs.Tree.{Tree}
use Rattle.swc_ecma_parser_grammar.specs.Looks.{sees}
use Rattle.swc_ecma_parser_grammar.specs.language.Contexts.{with_in}
use Rattle.swc_ecma_parser_grammar.specs.language.Goals.{Class}
use Rattle.swc_ecma_parser_reader.specs.Operands.{Cover, more, accessed, called}
use Rattle.swc_ecma_parser_reader.specs.State.{State, Reader, ◌>>=◌, ◌>>◌, pure, span_here, since, skip, within, fault, fault_at, expect, name, Step, More, Done, loop}

-- ---- what stands behind `@`

module _ (inner : Class → Reader Tree) (cover : Reader Cover) where
  -- an access by `.`, or arguments; what stands in `[` belongs to what is decorated
  unfoldable pub chain_turn : Span → Tree → Reader (Step Tree Tree)
  chain_turn start x = λ s.
      if sees kind.Dot s.at then (accessed inner cover start x >>= more) s
      else if sees kind.LParen s.at then (called inner cover start x >>= more) s
      else Ok (Done x, s)

  unfoldable pub chain_from : Span → Tree → Reader Tree
  chain_from start x = loop (chain_turn start) x

  -- a name, and what goes on with it
  unfoldable pub chain : Reader Tree
  chain = do
    start ← span_here
    i ← name faults.ExpectedIdent
    chain_from start (tree.ident i.span i.sym)

  -- arguments behind an expression in parentheses, which they call
  unfoldable pub behind_group : Span → Tree → Reader Tree
  behind_group start x = λ s. if sees kind.LParen s.at then called inner cover start x s else Ok (x, s)

  -- an expression at the level of the whole reads what stands in the parentheses, where `in` is an operator
  module _ (whole : Reader Tree) where
    unfoldable pub group : Reader Tree
    group = do
      skip
      start ← span_here
      e ← within with_in whole
      expect kind.RParen
      behind_group start e

    unfoldable pub decorated : Reader Tree
    decorated = λ s. if sees kind.LParen s.at then group s else chain s

-- ---- decorators, where the setting has them

-- Decorators that were read before it is known whose they are: where they stand, and whether what makes a program a module was read
-- before them.
pub record Leading : Type 0 where
  pub found : List Tree
  pub place : Span
  pub module_found : Bool

-- whether what makes a program a module was read is what it was before them
abbrev pub found_before : Leading → State → State
found_before v s = record s { notes = record s.notes { found_module_item = v.module_found } }

module _ (further : Reader Tree) where
  -- from `@` on
  unfoldable pub decorator : Reader Tree
  decorator = do
    start ← span_here
    skip
    e ← further
    span ← since start
    pure (tree.decorator span e)

  unfoldable pub decorators_turn : List Tree → Reader (Step (List Tree) (List Tree))
  decorators_turn found = λ s. if sees kind.At s.at then (do
    x ← decorator
    pure (More (found ++ x ∷ []))) s else Ok (Done found, s)

  unfoldable pub decorators : Reader (List Tree)
  decorators = λ s. if s.code.setting.decorators then loop decorators_turn [] s else Ok ([], s)

  -- ---- read before it is known whose they are

  unfoldable pub leading : Reader Leading
  leading = λ s. (do
    start ← span_here
    xs ← decorators
    span ← since start
    pure (record { found = xs; place = span; module_found = s.notes.found_module_item })) s

-- whether there are any
abbrev pub has_any : List Tree → Bool
has_any [] = false
has_any (x ∷ xs) = true

-- Decorators that nothing takes are dropped, with what makes a program a module in them, and recorded where they stand.
unfoldable pub misplaced : Leading → Reader (Unit {0})
misplaced v = λ s. if has_any v.found then fault (fault_at v.place faults.InvalidLeadingDecorator) (found_before v s) else Ok (tt, s)
