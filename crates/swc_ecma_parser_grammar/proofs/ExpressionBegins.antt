-- What an expression and a pattern begin with: what the look-ahead of `yield` takes for the beginning of one.
use Rattle.std.proofs.Common.{◌≡◌, inl, inr, ℕ, zero, suc, Bool, true, false, not, ◌&&◌, ◌||◌, List, [], ◌∷◌, Some, codes, refl, ap}
use denote.Enum.Bare.{same_true}
use Rattle.std.proofs.lemmas.Slice.Eq.{bytes_eq-Decides}
use Rattle.swc_ecma_parser_common.specs.declared.span.Span.{Span}
use Rattle.swc_ecma_parser_token.specs.declared.kind.TokenKind.{TokenKind}
use Rattle.swc_ecma_parser_token.specs.declared.kind.TokenKind.TheVariants as kind
use Rattle.swc_ecma_parser_token.specs.contracts.kind.TokenKind.{the_type}
use Rattle.swc_ecma_parser_token.specs.declared.keyword.Keyword.TheVariants as keyword
use Rattle.swc_ecma_parser_token.specs.declared.operator.BinOpToken.{BinOpToken}
use Rattle.swc_ecma_parser_token.specs.declared.operator.BinOpToken.TheVariants as bin
use Rattle.swc_ecma_parser_token.specs.declared.operator.AssignOp.{AssignOp}
use Rattle.swc_ecma_parser_token.specs.declared.operator.AssignOp.TheVariants as assign_op
use Rattle.swc_ecma_parser_token.specs.declared.token.Token.{Token}
use Rattle.swc_ecma_parser_token.specs.declared.token.Token.TheVariants as token
use Rattle.swc_ecma_parser_token.specs.declared.token.Word.TheVariants as word
use Rattle.swc_ecma_parser_token.specs.declared.token.TokenAndSpan.{TokenAndSpan}
use Rattle.swc_ecma_parser_token.specs.Kind.{bin_op_kind, assign_op_kind, token_kind}
use Rattle.swc_ecma_parser_input.specs.declared.context.Context.{Context}
use Rattle.swc_ecma_parser_input.specs.Place.{Place}
use Rattle.swc_ecma_parser_model.specs.declared.operators.UnaryOp.{UnaryOp}
use Rattle.swc_ecma_parser_model.specs.declared.operators.UpdateOp.{UpdateOp}
use Rattle.swc_ecma_parser_model.specs.Tree.{Tree, Text, listed}
use Rattle.swc_ecma_parser_grammar.specs.Looks.{first_kind, kind_at, sees, same_kind}
use Rattle.swc_ecma_parser_grammar.specs.Names.{Code, is_reserved, is_identifier, is_clean_name, token_is_identifier, first_is_identifier, identifier_at}
use Rattle.swc_ecma_parser_grammar.specs.Follows.{word_at, token_is, first_is, AsyncWord, not_async, async_word}
use Rattle.swc_ecma_parser_grammar.specs.language.Goals.{Goal, Class, expression, assignment, operator, unary, left_side, callee, Purpose, expr_goal, pattern_goal, binding, assigning}
use Rattle.swc_ecma_parser_grammar.specs.language.Operators.{unary_operator, update_operator}
use Rattle.swc_ecma_parser_grammar.specs.language.Begins.{begins_operand, begins_unary, begins_expression, awaits}
use Rattle.swc_ecma_parser_grammar.specs.language.Parts.{ReadsName, ReadsToken}
use Rattle.swc_ecma_parser_grammar.specs.language.Functions.{FunctionRule}
use Rattle.swc_ecma_parser_grammar.specs.language.LeftSides.{PrimaryRule, name_rule, string_rule, true_rule, false_rule, null_rule, number_rule, big_int_rule, regex_rule, template_rule, this_rule, array_rule, object_rule, function_rule, class_rule, paren_rule, LeftSideRule, primary_rule, import_meta_rule, new_target_rule, member_rule, super_property_rule, call_rule, tagged_rule, chain_rule, linked_rule, super_call_rule, import_call_rule, new_rule, bare_new_rule}
use Rattle.swc_ecma_parser_grammar.specs.language.Patterns.{PatternRule, binding_name_rule, target_name_rule, target_rule, array_rule, object_rule}
use Rattle.swc_ecma_parser_grammar.specs.language.Expressions.{UnaryRule, operand_rule, unary_rule, prefix_rule, postfix_rule, await_rule, BinaryRule, single_rule, left_rule, power_rule, private_in_rule, ArrowHeadRule, name_head, parameters_head, AssignmentRule, operators_rule, conditional_rule, assign_rule, destructuring_rule, arrow_rule, bare_yield_rule, yield_rule, delegate_rule, ExpressionRule, assignment_rule, sequence_rule, ExprRule}
use Rattle.swc_ecma_parser_grammar.specs.language.Reads.{Reads}
use Rattle.swc_ecma_parser_grammar.proofs.Beginnings.{template_opens}

-- ---- tokens

or_true : (a : Bool) → a || true ≡ true
or_true true = refl
or_true false = refl

or_second : (a b : Bool) → b ≡ true → a || b ≡ true
or_second a b h = rw h (or_true a)

and_both : (a b : Bool) → a ≡ true → b ≡ true → a && b ≡ true
and_both a b g h = rw (g, h) refl

pub and_first : (a b : Bool) → a && b ≡ true → a ≡ true
and_first true b h = refl
and_first false b h = cc

-- a token of the list
pub kind_of_token : {t : Token} {s : Span} {c d : Place} → ReadsToken t s c d → kind_at c ≡ token_kind t
unfolding kind_at
kind_of_token r = ap (λ (ts : List TokenAndSpan). elim ts as (λ us. TokenKind) [ [] ↦ kind.End | u ∷ us ↦ token_kind u.token ]) r.is

-- a token that is no name
operand_begins : (f : Context) (c : Place) (t : TokenKind) → kind_at c ≡ t → begins_operand t ≡ true → begins_expression f c ≡ true
unfolding begins_expression begins_unary
operand_begins f c t h g = rw (h, g) refl

identifier_begins : (f : Context) (c : Place) → identifier_at f c ≡ true → begins_expression f c ≡ true
unfolding begins_expression begins_unary
identifier_begins f c h = rw (h, or_true (begins_operand (kind_at c))) refl

pub name_is_identifier : (k : Code) (text : Text) (s : Span) (c d : Place) → ReadsName k text s c d → identifier_at k.flags c ≡ true
unfolding identifier_at is_clean_name
name_is_identifier k text s c d r = rw (r.reads_word.is, ← r.is_text) (and_first _ _ r.is_name)

name_begins : (k : Code) (text : Text) (s : Span) (c d : Place) → ReadsName k text s c d → begins_expression k.flags c ≡ true
name_begins k text s c d r = identifier_begins k.flags c (name_is_identifier k text s c d r)

-- a word that is reserved in no code
unreserved : (a b : Bool) → not ((a && false) || (b && false)) ≡ true
unreserved true true = refl
unreserved true false = refl
unreserved false true = refl
unreserved false false = refl

async_is_identifier : (f : Context) → is_identifier f (codes "async") ≡ true
unfolding is_identifier is_reserved
async_is_identifier f = unreserved f.strict f.in_generator

await_is_identifier : (f : Context) → is_identifier f (codes "await") ≡ true
unfolding is_identifier is_reserved
await_is_identifier f = unreserved f.strict f.in_generator

-- ---- words told by their text or kind

word_is_identifier : (f : Context) (text : Text) (ts : List TokenAndSpan) → is_identifier f text ≡ true → first_is text ts ≡ true → first_is_identifier f ts ≡ true
word_is_identifier f text [] g h = cc
word_is_identifier f text (t ∷ ts) g h = go t.token h
  where
    go : (t : Token) → token_is text t ≡ true → token_is_identifier f t ≡ true
    go (token.Word (word.Ident u)) e = rw ((bytes_eq-Decides u text).0 e) g
    go _ e = cc

async_begins : (f : Context) (c : Place) → word_at (codes "async") c ≡ true → begins_expression f c ≡ true
unfolding word_at identifier_at
async_begins f c h = identifier_begins f c (word_is_identifier f (codes "async") c.left (async_is_identifier f) h)

no_binary : {X : Type 0} (o : BinOpToken) → bin_op_kind o ≡ kind.Await → X
no_binary bin.EqEq h = cc
no_binary _ h = cc

no_assignment : {X : Type 0} (o : AssignOp) → assign_op_kind o ≡ kind.Await → X
no_assignment assign_op.Assign h = cc
no_assignment _ h = cc

await_is_first : (f : Context) (t : Token) → token_kind t ≡ kind.Await → token_is_identifier f t ≡ true
await_is_first f (token.Word (word.Keyword keyword.Await)) h = await_is_identifier f
await_is_first f (token.BinOp o) h = no_binary o h
await_is_first f (token.AssignOp o) h = no_assignment o h
await_is_first f _ h = cc

pub kind_seen : (t : TokenKind) (c : Place) → sees t c ≡ true → kind_at c ≡ t
unfolding same_kind
kind_seen t c h = same_true the_type tt (kind_at c) t h

await_begins : (f : Context) (c : Place) → kind_at c ≡ kind.Await → begins_expression f c ≡ true
unfolding identifier_at kind_at
await_begins f c h = identifier_begins f c (go c.left h)
  where
    go : (ts : List TokenAndSpan) → first_kind ts ≡ kind.Await → first_is_identifier f ts ≡ true
    go [] e = cc
    go (t ∷ ts) e = await_is_first f t.token e

yield_begins : (f : Context) (c : Place) → f.in_generator ≡ true → kind_at c ≡ kind.Yield → begins_expression f c ≡ true
unfolding begins_expression same_kind
yield_begins f c g h = or_second (begins_unary f c) _ (or_second (same_kind (kind_at c) kind.HashIn) _ (and_both _ _ g (rw h refl)))

hash_begins : (f : Context) (c : Place) → kind_at c ≡ kind.HashIn → begins_expression f c ≡ true
unfolding begins_expression same_kind
hash_begins f c h = or_second (begins_unary f c) _ (rw h refl)

-- ---- operators

pub await_stands : (f : Context) (c : Place) → awaits f c ≡ true → kind_at c ≡ kind.Await
unfolding awaits
await_stands f c h = kind_seen kind.Await c (and_first _ _ h)

unary_begins : (t : TokenKind) (op : UnaryOp) → unary_operator t ≡ Some op → begins_operand t ≡ true
unary_begins kind.Delete op h = refl
unary_begins kind.Void op h = refl
unary_begins kind.TypeOf op h = refl
unary_begins kind.Add op h = refl
unary_begins kind.Sub op h = refl
unary_begins kind.Tilde op h = refl
unary_begins kind.Bang op h = refl
unary_begins _ op h = cc

update_begins : (t : TokenKind) (op : UpdateOp) → update_operator t ≡ Some op → begins_operand t ≡ true
update_begins kind.PlusPlus op h = refl
update_begins kind.MinusMinus op h = refl
update_begins _ op h = cc

-- ---- expressions and patterns

module _ (In : Goal → Type 0) (k : Code) where
  function_begins : (decorators name x : Tree) (c d : Place) → FunctionRule In true k decorators name x c d → begins_expression k.flags c ≡ true
  function_begins decorators name x c d r = go r.reads_async
    where
      go : AsyncWord r.is_async c r.word → begins_expression k.flags c ≡ true
      go (not_async e h) = operand_begins k.flags c kind.Function (rw h at r.is_function) refl
      go (async_word e h g b) = async_begins k.flags c h

  primary_begins : (x : Tree) (c d : Place) → PrimaryRule In k x c d → begins_expression k.flags c ≡ true
  primary_begins x c d (name_rule text s r h e) = name_begins k text s c d r
  primary_begins x c d (string_rule v w s r e) = operand_begins k.flags c kind.Str (kind_of_token r) refl
  primary_begins x c d (true_rule s r e) = operand_begins k.flags c kind.True (kind_of_token r) refl
  primary_begins x c d (false_rule s r e) = operand_begins k.flags c kind.False (kind_of_token r) refl
  primary_begins x c d (null_rule s r e) = operand_begins k.flags c kind.Null (kind_of_token r) refl
  primary_begins x c d (number_rule w s r e) = operand_begins k.flags c kind.Num (kind_of_token r) refl
  primary_begins x c d (big_int_rule w s r e) = operand_begins k.flags c kind.BigInt (kind_of_token r) refl
  primary_begins x c d (regex_rule w f s r e) = operand_begins k.flags c kind.Regex (kind_of_token r) refl
  primary_begins x c d (template_rule es qs r e) = elim (template_opens r) [ inl i ↦ operand_begins k.flags c kind.Template i refl | inr i ↦ operand_begins k.flags c kind.TemplateHead i refl ]
  primary_begins x c d (this_rule h g e) = operand_begins k.flags c kind.This h refl
  primary_begins x c d (array_rule es m h r g i e) = operand_begins k.flags c kind.LBracket h refl
  primary_begins x c d (object_rule ps m h r g i e) = operand_begins k.flags c kind.LBrace h refl
  primary_begins x c d (function_rule name fn r e) = function_begins (listed []) name fn c d r
  primary_begins x c d (class_rule name body r e) = operand_begins k.flags c kind.Class r.is_class refl
  primary_begins x c d (paren_rule y m h r g i e) = operand_begins k.flags c kind.LParen h refl

  left_side_begins : {x : Tree} {c d : Place} → LeftSideRule In k x c d → begins_expression k.flags c ≡ true
  left_side_begins {x = x} {c = c} {d = d} (primary_rule r) = primary_begins x c d r
  left_side_begins {c = c} (import_meta_rule h g i j l e) = operand_begins k.flags c kind.Import h refl
  left_side_begins {c = c} (new_target_rule h g i j e) = operand_begins k.flags c kind.New h refl
  left_side_begins (member_rule obj property m r n a e) = left_side_begins r
  left_side_begins {c = c} (super_property_rule property h a g e) = operand_begins k.flags c kind.Super h refl
  left_side_begins (call_rule called arguments m r n a e) = left_side_begins r
  left_side_begins (tagged_rule tag es qs m r n q e) = left_side_begins r
  left_side_begins (chain_rule obj base m r h q e) = left_side_begins r
  left_side_begins (linked_rule obj base m r n q e) = left_side_begins r
  left_side_begins {c = c} (super_call_rule arguments h a e) = operand_begins k.flags c kind.Super h refl
  left_side_begins {c = c} (import_call_rule arguments h a e) = operand_begins k.flags c kind.Import h refl
  left_side_begins {c = c} (new_rule called arguments m h r a e) = operand_begins k.flags c kind.New h refl
  left_side_begins {c = c} (bare_new_rule called h r e) = operand_begins k.flags c kind.New h refl

  pattern_begins : (p : Purpose) (x : Tree) (c d : Place) → PatternRule In p k x c d → begins_expression k.flags c ≡ true
  pattern_begins p x c d (binding_name_rule text s h r e) = name_begins k text s c d r
  pattern_begins p x c d (target_name_rule text s h g r e) = name_begins k text s c d r
  pattern_begins p x c d (target_rule y h r g i e) = left_side_begins r.0
  pattern_begins p x c d (array_rule es m h r g i e) = operand_begins k.flags c kind.LBracket h refl
  pattern_begins p x c d (object_rule ps m h r g i e) = operand_begins k.flags c kind.LBrace h refl

  unary_rule_begins : (x : Tree) (c d : Place) → UnaryRule In k x c d → begins_expression k.flags c ≡ true
  unary_rule_begins x c d (operand_rule r) = left_side_begins r.0
  unary_rule_begins x c d (unary_rule op y h r e) = operand_begins k.flags c (kind_at c) refl (unary_begins (kind_at c) op h)
  unary_rule_begins x c d (prefix_rule op y h r g e) = operand_begins k.flags c (kind_at c) refl (update_begins (kind_at c) op h)
  unary_rule_begins x c d (postfix_rule op y m r g h i j e) = left_side_begins r.0
  unary_rule_begins x c d (await_rule y h g r e) = await_begins k.flags c (await_stands k.flags c h)

  binary_begins : {n : ℕ} {x : Tree} {c d : Place} → BinaryRule In k n x c d → begins_expression k.flags c ≡ true
  binary_begins {x = x} {c = c} {d = d} (single_rule r) = unary_rule_begins x c d r
  binary_begins (left_rule op left right m l g o r h s i j e) = binary_begins r
  binary_begins {c = c} (power_rule left right m l r g h s e) = unary_rule_begins left c m r
  binary_begins {c = c} (private_in_rule name right m l b r h s e) = hash_begins k.flags c r.hash

-- an arrow's single name is a pattern
module _ (In : Goal → Type 0) (patterns : (p : Purpose) (k : Code) (x : Tree) (c d : Place) → In (pattern_goal p k x c d) → begins_expression k.flags c ≡ true) (k : Code) where
  arrow_begins : (is_async : Bool) (ps : List Tree) (c i j : Place) → AsyncWord is_async c i → ArrowHeadRule In k ps i j → begins_expression k.flags c ≡ true
  arrow_begins is_async ps c i j (async_word e h g b) r = async_begins k.flags c h
  arrow_begins is_async ps c i j (not_async e h) (name_head p r g f) = rw h at (patterns binding k p i j r)
  arrow_begins is_async ps c i j (not_async e h) (parameters_head r) = operand_begins k.flags c kind.LParen (rw h at r.opens) refl

  assignment_begins : (x : Tree) (c d : Place) → AssignmentRule In k x c d → begins_expression k.flags c ≡ true
  assignment_begins x c d (operators_rule r e) = binary_begins In k r
  assignment_begins x c d (conditional_rule a b y i j r h s g u l e) = binary_begins In k r
  assignment_begins x c d (assign_rule op left right m r h g s e) = left_side_begins In k r.0
  assignment_begins x c d (destructuring_rule left right m r h g s e) = pattern_begins In k assigning left c m r
  assignment_begins x c d (arrow_rule is_async ps body i j a r h b s e) = arrow_begins is_async ps c i j a r
  assignment_begins x c d (bare_yield_rule g h i j e) = yield_begins k.flags c g h
  assignment_begins x c d (yield_rule y g h b i r e) = yield_begins k.flags c g h
  assignment_begins x c d (delegate_rule y g h b i r e) = yield_begins k.flags c g h

  expression_rule_begins : (x : Tree) (c d : Place) → ExpressionRule In k x c d → begins_expression k.flags c ≡ true
  expression_rule_begins x c d (assignment_rule r e) = assignment_begins x c d r
  expression_rule_begins x c d (sequence_rule y z ys (m, r, h, s) e) = assignment_begins y c m r

  class_begins : (class : Class) (x : Tree) (c d : Place) → ExprRule In class k x c d → begins_expression k.flags c ≡ true
  class_begins expression x c d r = expression_rule_begins x c d r
  class_begins assignment x c d r = assignment_begins x c d r
  class_begins (operator n) x c d r = binary_begins In k r.0
  class_begins unary x c d r = unary_rule_begins In k x c d r.0
  class_begins left_side x c d r = left_side_begins In k r.0
  class_begins callee x c d r = left_side_begins In k r.0.0

pub patterns_begin : (n : ℕ) (p : Purpose) (k : Code) (x : Tree) (c d : Place) → Reads n (pattern_goal p k x c d) → begins_expression k.flags c ≡ true
patterns_begin zero p k x c d h = absurd h
patterns_begin (suc n) p k x c d h = pattern_begins (Reads n) k p x c d h

pub expressions_begin : (n : ℕ) (class : Class) (k : Code) (x : Tree) (c d : Place) → Reads n (expr_goal class k x c d) → begins_expression k.flags c ≡ true
expressions_begin zero class k x c d h = absurd h
expressions_begin (suc n) class k x c d h = class_begins (Reads n) (patterns_begin n) k class x c d h
