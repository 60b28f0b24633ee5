-- Laws of the relation: what is true of everything that it reads.
use Rattle.std.specs.Prelude.{◌≡◌, ℕ, ◌<◌, Bool, true, false, List, [], ◌∷◌, ◌++◌, length, Option, Some, None}
use Rattle.swc_ecma_parser_token.specs.declared.kind.TokenKind.TheVariants as kind
use Rattle.swc_ecma_parser_token.specs.declared.token.Token.{Token}
use Rattle.swc_ecma_parser_token.specs.declared.token.Token.TheVariants as token
use Rattle.swc_ecma_parser_token.specs.declared.token.TokenAndSpan.{TokenAndSpan}
use Rattle.swc_ecma_parser_token.specs.Text.{word_text}
use Rattle.swc_ecma_parser_input.specs.Place.{Place, after}
use Rattle.swc_ecma_parser_model.specs.Tree as tree
use Rattle.swc_ecma_parser_model.specs.Tree.{Tree, also, Text}
use Rattle.swc_ecma_parser_model.specs.Forms.{span_of}
use Rattle.swc_ecma_parser_grammar.specs.Looks.{kind_at, breaks_at, spanned}
use Rattle.swc_ecma_parser_grammar.specs.Names.{Code}
use Rattle.swc_ecma_parser_grammar.specs.Follows.{continues_left_side}
use Rattle.swc_ecma_parser_grammar.specs.Walk.{Env, env_of, walk, tabled}
use Rattle.swc_ecma_parser_grammar.specs.language.Goals.{Goal, expr_goal, callee_goal, pattern_goal, element_goal, stmt_goal, member_goal, decorator_goal, using_goal, attributes_goal, item_goal}
use Rattle.swc_ecma_parser_grammar.specs.language.Continues.{continues_callee, continues_unary, continues_operand, continues_head, continues_conditional, continues_assignment, continues_yield}
use Rattle.swc_ecma_parser_grammar.specs.language.Reads.{Reads}

-- ---- progress

-- At least one token stands between two places; the second is behind the last of them.
pub record Advances (c d : Place) : Type 0 where
  pub others : List TokenAndSpan
  pub final : TokenAndSpan
  pub are_taken : c.left ≡ others ++ (final ∷ d.left)
  pub was_last : d.last ≡ final.span

-- the place where a goal begins, and the one behind it
abbrev pub begin : Goal → Place
begin (expr_goal class k x c d) = c
begin (callee_goal k x c d) = c
begin (pattern_goal p k x c d) = c
begin (element_goal p k x c d) = c
begin (stmt_goal k at x c d) = c
begin (member_goal k x c d) = c
begin (decorator_goal k x c d) = c
begin (using_goal k x c d) = c
begin (attributes_goal k x c d) = c
begin (item_goal k x c d) = c

abbrev pub end : Goal → Place
end (expr_goal class k x c d) = d
end (callee_goal k x c d) = d
end (pattern_goal p k x c d) = d
end (element_goal p k x c d) = d
end (stmt_goal k at x c d) = d
end (member_goal k x c d) = d
end (decorator_goal k x c d) = d
end (using_goal k x c d) = d
end (attributes_goal k x c d) = d
end (item_goal k x c d) = d

-- Whatever is read takes at least one token: an expression, a pattern, an element, a statement, a member, a decorator, an item.
abbrev pub Progress : Type 0
Progress = (n : ℕ) (g : Goal) → Reads n g → Advances (begin g) (end g)

-- so the tokens left behind are fewer
abbrev pub Shortens : Type 0
Shortens = (n : ℕ) (g : Goal) → Reads n g → length (end g).left < length (begin g).left

-- ---- the walk

-- every fault that the walk finds is of a kind that is tabled
abbrev pub WalkIsTabled : Type 0
WalkIsTabled = (env : Env) (x : Tree) → tabled (walk env x) ≡ walk env x

-- Two codes alike in what the walk looks at: the settings, strictness, whether a function stands around, and what may be left.
pub record WalkedAlike (k j : Code) : Type 0 where
  pub in_setting : k.setting ≡ j.setting
  pub in_strictness : k.flags.strict ≡ j.flags.strict
  pub in_functions : k.flags.in_function ≡ j.flags.in_function
  pub in_breaks : k.flags.is_break_allowed ≡ j.flags.is_break_allowed
  pub in_continues : k.flags.is_continue_allowed ≡ j.flags.is_continue_allowed

-- What the walk finds depends on nothing else of the code: not on modules, async code, generators, parameters, classes, static
-- blocks, or where `in` is an operator.
abbrev pub WalkLooksAtFew : Type 0
WalkLooksAtFew = (k j : Code) (labels : List Text) (x : Tree) → WalkedAlike k j → walk (env_of k labels) x ≡ walk (env_of j labels) x

-- ---- what must not follow

-- the text of a word
abbrev pub token_text : Token → Option Text
token_text (token.Word w) = Some (word_text w)
token_text _ = None

abbrev pub first_text : List TokenAndSpan → Option Text
first_text [] = None
first_text (t ∷ ts) = token_text t.token

-- the text of the word that stands first, where one does
unfoldable pub text_at : Place → Option Text
text_at c = first_text c.left

-- The first tokens of two places agree: in their kind, in the text of a word, and in the line break before them.
pub record Alike (c d : Place) : Type 0 where
  pub in_kind : kind_at c ≡ kind_at d
  pub in_text : text_at c ≡ text_at d
  pub in_break : breaks_at c ≡ breaks_at d

-- Whether something goes on with an expression depends, in the code that it is read as, on the first token behind it alone;
-- for the head of an arrow on the first two of the expression too.
pub record FollowIsLocal : Type 0 where
  pub left_side : (d e : Place) → Alike d e → continues_left_side d ≡ continues_left_side e
  pub callee : (d e : Place) → Alike d e → continues_callee d ≡ continues_callee e
  pub unary : (x : Tree) (d e : Place) → Alike d e → continues_unary x d ≡ continues_unary x e
  pub operand : (k : Code) (n : ℕ) (x : Tree) (d e : Place) → Alike d e → continues_operand k n x d ≡ continues_operand k n x e
  pub conditional : (d e : Place) → Alike d e → continues_conditional d ≡ continues_conditional e
  pub yield : (k : Code) (d e : Place) → Alike d e → continues_yield k d ≡ continues_yield k e
  pub head : (k : Code) (x : Tree) (b c d e : Place) → Alike b c → Alike (after b) (after c) → Alike d e → continues_head k x b d ≡ continues_head k x c e
  pub assignment : (k : Code) (x : Tree) (b c d e : Place) → Alike b c → Alike (after b) (after c) → Alike d e → continues_assignment k x b d ≡ continues_assignment k x c e

-- ---- spans

-- whether decorators belong to a function or a class
abbrev pub is_decorated : Tree → Bool
is_decorated (tree.function s (tree.list (also y ys)) params body is_async is_generator) = true
is_decorated (tree.class s (tree.list (also y ys)) body super_class) = true
is_decorated (tree.fn_decl name y) = is_decorated y
is_decorated (tree.class_decl name y) = is_decorated y
is_decorated (tree.fn_expr s name y) = is_decorated y
is_decorated (tree.class_expr s name y) = is_decorated y
is_decorated _ = false

-- What may leave out the decorators that stand before it: a function, and what is exported, which begins at the word `export`.
-- A class that is a statement begins with them.
abbrev pub leaves_out : Tree → Bool
leaves_out (tree.fn_decl name y) = is_decorated y
leaves_out (tree.export_decl s y) = is_decorated y
leaves_out (tree.export_default_decl s y) = is_decorated y
leaves_out _ = false

-- where the span of a statement or an item begins: with its first token, or behind decorators that it leaves out
pub data BeginsAt (x : Tree) (c m : Place) : Type 0 where
  at_once : m ≡ c → BeginsAt x c m
  behind_decorators : leaves_out x ≡ true → Advances c m → BeginsAt x c m

pub record IsSpanned (x : Tree) (c d : Place) : Type 0 where
  pub start : Place
  pub begins : BeginsAt x c start
  pub is : span_of x ≡ spanned start d

-- what stands behind the `@` of a decorator: the tree does not keep the parentheses around an expression, nor those around the
-- expression that is called
pub data IsSpannedDecorator (x : Tree) (c d : Place) : Type 0 where
  whole : span_of x ≡ spanned c d → IsSpannedDecorator x c d
  in_parentheses : (m : Place) → kind_at c ≡ kind.LParen → kind_at m ≡ kind.RParen → d ≡ after m → span_of x ≡ spanned (after c) m → IsSpannedDecorator x c d
  called_in_parentheses : kind_at c ≡ kind.LParen → span_of x ≡ spanned (after c) d → IsSpannedDecorator x c d

-- from the first token to the last, but as these say; the name behind `await using` in a for head begins behind `using`
abbrev pub IsSpannedGoal : Goal → Type 0
IsSpannedGoal (expr_goal class k x c d) = span_of x ≡ spanned c d
IsSpannedGoal (callee_goal k x c d) = span_of x ≡ spanned c d
IsSpannedGoal (pattern_goal p k x c d) = span_of x ≡ spanned c d
IsSpannedGoal (element_goal p k x c d) = span_of x ≡ spanned c d
IsSpannedGoal (stmt_goal k at x c d) = IsSpanned x c d
IsSpannedGoal (member_goal k x c d) = span_of x ≡ spanned c d
IsSpannedGoal (decorator_goal k x c d) = IsSpannedDecorator x c d
IsSpannedGoal (using_goal k x c d) = span_of x ≡ spanned (after c) d
IsSpannedGoal (attributes_goal k x c d) = span_of x ≡ spanned c d
IsSpannedGoal (item_goal k x c d) = IsSpanned x c d

-- The span of whatever is read goes from the start of its first token to the end of its last.
abbrev pub SpansAreTokens : Type 0
SpansAreTokens = (n : ℕ) (g : Goal) → Reads n g → IsSpannedGoal g
