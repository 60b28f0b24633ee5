-- Primary and left-hand-side expressions: ECMA-262, sections 13.2 and 13.3. None of these rules closes its expression: where one is
-- read as an expression of a class, that is asked there (`Expressions`).
use Rattle.std.specs.Prelude.{◌≡◌, Bool, true, false, not, List, [], codes}
use Rattle.swc_ecma_parser_common.specs.declared.span.Span.{Span}
use Rattle.swc_ecma_parser_token.specs.declared.kind.TokenKind.TheVariants as kind
use Rattle.swc_ecma_parser_token.specs.declared.token.Token.TheVariants as token
use Rattle.swc_ecma_parser_token.specs.declared.token.Word.TheVariants as word
use Rattle.swc_ecma_parser_input.specs.Place.{Place, after}
use Rattle.swc_ecma_parser_model.specs.declared.leaves.MetaPropKind.TheVariants as meta
use Rattle.swc_ecma_parser_model.specs.Tree as tree
use Rattle.swc_ecma_parser_model.specs.Tree.{Tree, Text, listed}
use Rattle.swc_ecma_parser_model.specs.Forms.{is_chain}
use Rattle.swc_ecma_parser_grammar.specs.Looks.{kind_at, span_at, spanned}
use Rattle.swc_ecma_parser_grammar.specs.Names.{Code}
use Rattle.swc_ecma_parser_grammar.specs.Follows.{word_at, is_async_function}
use Rattle.swc_ecma_parser_grammar.specs.language.Contexts.{with_in}
use Rattle.swc_ecma_parser_grammar.specs.language.Goals.{Goal, expr_goal, callee_goal, expression, callee}
use Rattle.swc_ecma_parser_grammar.specs.language.Begins.{awaits}
use Rattle.swc_ecma_parser_grammar.specs.language.Noted.{is_import_meta}
use Rattle.swc_ecma_parser_grammar.specs.language.Lists.{ReadsListed, Elements}
use Rattle.swc_ecma_parser_grammar.specs.language.Parts.{ReadsName, AccessRule, is_private, ElementRule, ArgumentsRule, ReadsToken}
use Rattle.swc_ecma_parser_grammar.specs.language.Functions.{FunctionRule}
use Rattle.swc_ecma_parser_grammar.specs.language.Classes.{ClassRule}
use Rattle.swc_ecma_parser_grammar.specs.language.Objects.{PropertyRule}
use Rattle.swc_ecma_parser_grammar.specs.language.Templates.{TemplateRule}
use Rattle.swc_ecma_parser_grammar.specs.language.Links.{LinkRule}

-- ---- primary expressions: section 13.2

-- It does not close: it may be the object of a member, or what is called.
pub data PrimaryRule (In : Goal → Type 0) (k : Code) (x : Tree) (c d : Place) : Type 0 where
  -- `async function` on one line is no name
  name_rule : (text : Text) (s : Span) → ReadsName k text s c d → is_async_function c ≡ false → x ≡ tree.ident s text → PrimaryRule In k x c d
  string_rule : (value raw : Text) (s : Span) → ReadsToken (token.Str value raw) s c d → x ≡ tree.str s value raw → PrimaryRule In k x c d
  true_rule : (s : Span) → ReadsToken (token.Word word.True) s c d → x ≡ tree.bool s true → PrimaryRule In k x c d
  false_rule : (s : Span) → ReadsToken (token.Word word.False) s c d → x ≡ tree.bool s false → PrimaryRule In k x c d
  null_rule : (s : Span) → ReadsToken (token.Word word.Null) s c d → x ≡ tree.null s → PrimaryRule In k x c d
  number_rule : (raw : Text) (s : Span) → ReadsToken (token.Num raw) s c d → x ≡ tree.num s raw → PrimaryRule In k x c d
  big_int_rule : (raw : Text) (s : Span) → ReadsToken (token.BigInt raw) s c d → x ≡ tree.big_int s raw → PrimaryRule In k x c d
  -- section 12.9.5
  regex_rule : (exp flags : Text) (s : Span) → ReadsToken (token.Regex exp flags) s c d → x ≡ tree.regex s exp flags → PrimaryRule In k x c d
  -- section 13.2.8
  template_rule : (exprs quasis : List Tree) → TemplateRule In false k exprs quasis c d → x ≡ tree.tpl (spanned c d) (listed exprs) (listed quasis) → PrimaryRule In k x c d
  this_rule : kind_at c ≡ kind.This → d ≡ after c → x ≡ tree.this (spanned c d) → PrimaryRule In k x c d
  array_rule : (elements : List Tree) (m : Place) → kind_at c ≡ kind.LBracket → Elements (ElementRule In k) elements (after c) m → kind_at m ≡ kind.RBracket → d ≡ after m
      → x ≡ tree.array (spanned c d) (listed elements) → PrimaryRule In k x c d
  object_rule : (properties : List Tree) (m : Place) → kind_at c ≡ kind.LBrace → ReadsListed true (PropertyRule In k) properties (after c) m → kind_at m ≡ kind.RBrace → d ≡ after m
      → x ≡ tree.object (spanned c d) (listed properties) → PrimaryRule In k x c d
  function_rule : (name function : Tree) → FunctionRule In true k (listed []) name function c d → x ≡ tree.fn_expr (spanned c d) name function → PrimaryRule In k x c d
  class_rule : (name class : Tree) → ClassRule In k c (listed []) name class c d → x ≡ tree.class_expr (spanned c d) name class → PrimaryRule In k x c d
  paren_rule : (e : Tree) (m : Place) → kind_at c ≡ kind.LParen → In (expr_goal expression (with_in k) e (after c) m) → kind_at m ≡ kind.RParen → d ≡ after m
      → x ≡ tree.paren (spanned c d) e → PrimaryRule In k x c d

-- ---- left-hand-side expressions: section 13.3

-- what `new` calls holds no call and no optional chain outside parentheses: MemberExpression
abbrev pub is_callee : Tree → Bool
is_callee (tree.call s callee_of args) = false
is_callee (tree.meta_prop s kind) = not (is_import_meta kind)
is_callee (tree.member s obj prop) = is_callee obj
is_callee (tree.tagged_tpl s tag template) = is_callee tag
is_callee (tree.opt_chain s optional base) = false
is_callee _ = true

-- Its object and what it calls stand at its own level. It does not close: accesses, arguments and a postfix operator may follow.
pub data LeftSideRule (In : Goal → Type 0) (k : Code) : Tree → Place → Place → Type 0 where
  primary_rule : {x : Tree} {c d : Place} → PrimaryRule In k x c d → LeftSideRule In k x c d
  -- module code, or code that may be: section 13.3.12
  import_meta_rule : {x : Tree} {c d : Place} → kind_at c ≡ kind.Import → kind_at (after c) ≡ kind.Dot → word_at (codes "meta") (after (after c)) ≡ true → d ≡ after (after (after c))
      → k.flags.can_be_module ≡ true → x ≡ tree.meta_prop (spanned c d) meta.ImportMeta → LeftSideRule In k x c d
  -- section 13.3.12
  new_target_rule : {x : Tree} {c d : Place} → kind_at c ≡ kind.New → kind_at (after c) ≡ kind.NewDot → word_at (codes "target") (after (after c)) ≡ true → d ≡ after (after (after c))
      → x ≡ tree.meta_prop (spanned c d) meta.NewTarget → LeftSideRule In k x c d
  -- what goes on with an optional chain is a link of it
  member_rule : {x : Tree} {c d : Place} (object property : Tree) (m : Place) → LeftSideRule In k object c m → is_chain object ≡ false → AccessRule In k property m d
      → x ≡ tree.member (spanned c d) object property → LeftSideRule In k x c d
  -- `super` is not before a private name
  super_property_rule : {x : Tree} {c d : Place} (property : Tree) → kind_at c ≡ kind.Super → AccessRule In k property (after c) d → is_private property ≡ false
      → x ≡ tree.super_prop (spanned c d) (span_at c) property → LeftSideRule In k x c d
  call_rule : {x : Tree} {c d : Place} (called arguments : Tree) (m : Place) → LeftSideRule In k called c m → is_chain called ≡ false → ArgumentsRule In k true arguments m d
      → x ≡ tree.call (spanned c d) called arguments → LeftSideRule In k x c d
  -- section 13.3.11; an optional chain is no tag
  tagged_rule : {x : Tree} {c d : Place} (tag : Tree) (exprs quasis : List Tree) (m : Place) → LeftSideRule In k tag c m → is_chain tag ≡ false → TemplateRule In true k exprs quasis m d
      → x ≡ tree.tagged_tpl (spanned c d) tag (tree.tpl (spanned m d) (listed exprs) (listed quasis)) → LeftSideRule In k x c d
  -- section 13.3.9: `?.`, and each link behind it
  chain_rule : {x : Tree} {c d : Place} (object base : Tree) (m : Place) → LeftSideRule In k object c m → kind_at m ≡ kind.QuestionDot
      → LinkRule In k true (spanned c d) object base (after m) d → x ≡ tree.opt_chain (spanned c d) true base → LeftSideRule In k x c d
  linked_rule : {x : Tree} {c d : Place} (object base : Tree) (m : Place) → LeftSideRule In k object c m → is_chain object ≡ true
      → LinkRule In k false (spanned c d) object base m d → x ≡ tree.opt_chain (spanned c d) false base → LeftSideRule In k x c d
  super_call_rule : {x : Tree} {c d : Place} (arguments : Tree) → kind_at c ≡ kind.Super → ArgumentsRule In k true arguments (after c) d
      → x ≡ tree.call (spanned c d) (tree.super_callee (span_at c)) arguments → LeftSideRule In k x c d
  -- any number of arguments; a comma behind the last one only with the setting
  import_call_rule : {x : Tree} {c d : Place} (arguments : Tree) → kind_at c ≡ kind.Import → ArgumentsRule In k k.setting.import_attributes arguments (after c) d
      → x ≡ tree.call (spanned c d) (tree.import_callee (span_at c)) arguments → LeftSideRule In k x c d
  new_rule : {x : Tree} {c d : Place} (called arguments : Tree) (m : Place) → kind_at c ≡ kind.New → In (callee_goal k called (after c) m) → ArgumentsRule In k true arguments m d
      → x ≡ tree.new (spanned c d) called arguments → LeftSideRule In k x c d
  bare_new_rule : {x : Tree} {c d : Place} (called : Tree) → kind_at c ≡ kind.New → In (expr_goal callee k called (after c) d) → x ≡ tree.new (spanned c d) called tree.absent
      → LeftSideRule In k x c d

-- What `new` calls. It does not close: arguments may follow.
abbrev pub CalleeRule : (Goal → Type 0) → Code → Tree → Place → Place → Type 0
CalleeRule In k x c d = LeftSideRule In k x c d × (is_callee x ≡ true)

-- A left-hand-side expression where a unary expression may begin: `await` before an operand is no name there. Unary expressions rest
-- on it, and what is assigned to. It does not close.
abbrev pub OperandRule : (Goal → Type 0) → Code → Tree → Place → Place → Type 0
OperandRule In k x c d = LeftSideRule In k x c d × (awaits k.flags c ≡ false)
