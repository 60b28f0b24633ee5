-- What stands behind the `@` of a decorator: the proposal of decorators.
use Rattle.std.specs.Prelude.{◌≡◌, true, false}
use Rattle.swc_ecma_parser_common.specs.declared.span.Span.{Span}
use Rattle.swc_ecma_parser_token.specs.declared.kind.TokenKind.TheVariants as kind
use Rattle.swc_ecma_parser_input.specs.Place.{Place, after}
use Rattle.swc_ecma_parser_model.specs.Tree as tree
use Rattle.swc_ecma_parser_model.specs.Tree.{Tree, Text}
use Rattle.swc_ecma_parser_model.specs.Kinds.{is_computed}
use Rattle.swc_ecma_parser_grammar.specs.Looks.{kind_at, sees, spanned}
use Rattle.swc_ecma_parser_grammar.specs.Names.{Code}
use Rattle.swc_ecma_parser_grammar.specs.language.Contexts.{with_in}
use Rattle.swc_ecma_parser_grammar.specs.language.Goals.{Goal}
use Rattle.swc_ecma_parser_grammar.specs.language.Parts.{ReadsName, AccessRule, ArgumentsRule}
use Rattle.swc_ecma_parser_grammar.specs.language.Expressions.{ExpressionRule}

-- A name with any number of accesses by `.` and arguments. It does not close.
pub data ChainRule (In : Goal → Type 0) (k : Code) : Tree → Place → Place → Type 0 where
  name_rule : {x : Tree} {c d : Place} (text : Text) (s : Span) → ReadsName k text s c d → x ≡ tree.ident s text → ChainRule In k x c d
  member_rule : {x : Tree} {c d : Place} (object property : Tree) (m : Place) → ChainRule In k object c m → AccessRule In k property m d → is_computed property ≡ false
      → x ≡ tree.member (spanned c d) object property → ChainRule In k x c d
  call_rule : {x : Tree} {c d : Place} (called arguments : Tree) (m : Place) → ChainRule In k called c m → ArgumentsRule In k true arguments m d
      → x ≡ tree.call (spanned c d) called arguments → ChainRule In k x c d

-- An expression in parentheses, which the tree does not keep. It does not close: arguments may follow.
pub record GroupRule (In : Goal → Type 0) (k : Code) (e : Tree) (c d : Place) : Type 0 where
  pub close : Place
  pub opens : kind_at c ≡ kind.LParen
  pub reads_expression : ExpressionRule In (with_in k) e (after c) close
  pub closes : kind_at close ≡ kind.RParen
  pub next : d ≡ after close

-- The call of an expression in parentheses begins with that expression, and ends the decorator. It closes: what could still go on
-- with it must not follow.
pub data DecoratedRule (In : Goal → Type 0) (k : Code) (x : Tree) (c d : Place) : Type 0 where
  group_rule : GroupRule In k x c d → sees kind.LParen d ≡ false → DecoratedRule In k x c d
  group_call_rule : (e arguments : Tree) (m : Place) → GroupRule In k e c m → ArgumentsRule In k true arguments m d → x ≡ tree.call (spanned (after c) d) e arguments
      → DecoratedRule In k x c d
  chain_rule : ChainRule In k x c d → sees kind.Dot d ≡ false → sees kind.LParen d ≡ false → DecoratedRule In k x c d
