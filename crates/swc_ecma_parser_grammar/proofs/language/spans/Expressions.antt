-- The span of whatever is read goes from its first token to its last: expressions, patterns, members, decorators.
use Rattle.std.proofs.Common.{◌≡◌, ℕ, Bool, true, false, if◌then◌else◌, List, [], ◌∷◌, refl, ap, sym, ◌∙◌, subst}
use Rattle.swc_ecma_parser_common.specs.declared.span.Span.{Span}
use Rattle.swc_ecma_parser_token.specs.declared.token.Token.{Token}
use Rattle.swc_ecma_parser_token.specs.declared.token.TokenAndSpan.{TokenAndSpan}
use Rattle.swc_ecma_parser_input.specs.Place.{Place, past, after}
use Rattle.swc_ecma_parser_model.specs.declared.leaves.MethodKind.{MethodKind}
use Rattle.swc_ecma_parser_model.specs.Tree as tree
use Rattle.swc_ecma_parser_model.specs.Tree.{Tree, Text}
use Rattle.swc_ecma_parser_model.specs.Forms.{span_of}
use Rattle.swc_ecma_parser_grammar.specs.Looks.{first_span, span_at, spanned}
use Rattle.swc_ecma_parser_grammar.specs.Names.{Code}
use Rattle.swc_ecma_parser_grammar.specs.language.Goals.{Goal, Class, expression, assignment, operator, unary, left_side, callee, Purpose}
use Rattle.swc_ecma_parser_grammar.specs.language.Parts.{ReadsName, is_private, ReadsToken}
use Rattle.swc_ecma_parser_grammar.specs.language.Functions.{FunctionRule}
use Rattle.swc_ecma_parser_grammar.specs.language.Classes as classes
use Rattle.swc_ecma_parser_grammar.specs.language.Classes.{method_member, field_member, CoreRule, MemberRule, ClassRule}
use Rattle.swc_ecma_parser_grammar.specs.language.LeftSides as sides
use Rattle.swc_ecma_parser_grammar.specs.language.LeftSides.{PrimaryRule, LeftSideRule}
use Rattle.swc_ecma_parser_grammar.specs.language.Patterns as patterns
use Rattle.swc_ecma_parser_grammar.specs.language.Patterns.{PatternRule, PatternElementRule}
use Rattle.swc_ecma_parser_grammar.specs.language.Expressions as exprs
use Rattle.swc_ecma_parser_grammar.specs.language.Expressions.{UnaryRule, BinaryRule, AssignmentRule, ExpressionRule, ExprRule}
use Rattle.swc_ecma_parser_grammar.specs.language.Decorators as chains
use Rattle.swc_ecma_parser_grammar.specs.language.Decorators.{ChainRule, DecoratedRule}
use Rattle.swc_ecma_parser_grammar.specs.language.Laws.{IsSpannedDecorator, whole, in_parentheses, called_in_parentheses}

-- ---- tokens

from_first : (last : Span) (ts rest : List TokenAndSpan) (t : TokenAndSpan) → ts ≡ t ∷ rest
    → t.span ≡ record { lo = (first_span last ts).lo; hi = (past (record { last = last; left = ts }) ts).last.hi }
from_first last [] rest t e = absurd (cc)
from_first last (s ∷ ts) rest t e = let f : t ≡ s = cc in ap (λ (u : TokenAndSpan). u.span) f

-- a token spans itself
pub token_span : {t : Token} {s : Span} {c d : Place} → ReadsToken t s c d → s ≡ spanned c d
unfolding spanned span_at after
token_span {t} {s} {c} r = subst (λ d. s ≡ spanned c d) (sym r.next) (from_first c.last c.left r.rest (record { token = t; had_line_break = r.had_line_break; span = s }) r.is)

pub name_span : {k : Code} {text : Text} {s : Span} {c d : Place} → ReadsName k text s c d → s ≡ spanned c d
name_span r = token_span r.reads_word

-- ---- members, whatever their key

either_span : (b : Bool) (x y : Tree) (s : Span) → span_of x ≡ s → span_of y ≡ s → span_of (if b then x else y) ≡ s
either_span true x y s e f = e
either_span false x y s e f = f

method_span : (s : Span) (key fn : Tree) (form : MethodKind) (is_static : Bool) → span_of (method_member s key fn form is_static) ≡ s
method_span s key fn form is_static = either_span (is_private key) (tree.private_method s key fn form is_static) (tree.method s key fn form is_static) s refl refl

field_span : (s : Span) (key value : Tree) (is_static is_accessor : Bool) (ds : Tree) → span_of (field_member s key value is_static is_accessor ds) ≡ s
field_span s key value is_static true ds = refl
field_span s key value is_static false ds =
    either_span (is_private key) (tree.private_prop s key value is_static ds) (tree.class_prop s key value is_static ds) s refl refl

module _ (In : Goal → Type 0) where
  -- ---- expressions

  pub primary : {k : Code} {x : Tree} {c d : Place} → PrimaryRule In k x c d → span_of x ≡ spanned c d
  primary (sides.name_rule text s r a e) = ap span_of e ∙ name_span r
  primary (sides.string_rule v w s r e) = ap span_of e ∙ token_span r
  primary (sides.true_rule s r e) = ap span_of e ∙ token_span r
  primary (sides.false_rule s r e) = ap span_of e ∙ token_span r
  primary (sides.null_rule s r e) = ap span_of e ∙ token_span r
  primary (sides.number_rule w s r e) = ap span_of e ∙ token_span r
  primary (sides.big_int_rule w s r e) = ap span_of e ∙ token_span r
  primary (sides.regex_rule exp flags s r e) = ap span_of e ∙ token_span r
  primary (sides.template_rule es qs r e) = ap span_of e
  primary (sides.this_rule h i e) = ap span_of e
  primary (sides.array_rule es m h r g i e) = ap span_of e
  primary (sides.object_rule ps m h r g i e) = ap span_of e
  primary (sides.function_rule n f r e) = ap span_of e
  primary (sides.class_rule n f r e) = ap span_of e
  primary (sides.paren_rule y m h r g i e) = ap span_of e

  pub left_side_rule : {k : Code} {x : Tree} {c d : Place} → LeftSideRule In k x c d → span_of x ≡ spanned c d
  left_side_rule (sides.primary_rule r) = primary r
  left_side_rule (sides.import_meta_rule h g w i b e) = ap span_of e
  left_side_rule (sides.new_target_rule H G W N e) = ap span_of e
  left_side_rule (sides.member_rule o p m r n q e) = ap span_of e
  left_side_rule (sides.super_property_rule p h q b e) = ap span_of e
  left_side_rule (sides.call_rule f xs m r n q e) = ap span_of e
  left_side_rule (sides.tagged_rule t es qs m r N q e) = ap span_of e
  left_side_rule (sides.chain_rule o b m r H q e) = ap span_of e
  left_side_rule (sides.linked_rule o b m r N q e) = ap span_of e
  left_side_rule (sides.super_call_rule xs h q e) = ap span_of e
  left_side_rule (sides.import_call_rule xs h q e) = ap span_of e
  left_side_rule (sides.new_rule f xs m h r q e) = ap span_of e
  left_side_rule (sides.bare_new_rule f h r e) = ap span_of e

  pub unary_rule : {k : Code} {x : Tree} {c d : Place} → UnaryRule In k x c d → span_of x ≡ spanned c d
  unary_rule (exprs.operand_rule r) = left_side_rule r.0
  unary_rule (exprs.unary_rule op y h r e) = ap span_of e
  unary_rule (exprs.prefix_rule op y h r a e) = ap span_of e
  unary_rule (exprs.postfix_rule op y m r a b h i e) = ap span_of e
  unary_rule (exprs.await_rule y h a r e) = ap span_of e

  pub binary_rule : {k : Code} {n : ℕ} {x : Tree} {c d : Place} → BinaryRule In k n x c d → span_of x ≡ spanned c d
  binary_rule (exprs.single_rule r) = unary_rule r
  binary_rule (exprs.left_rule op y z m l a b r h q f g e) = ap span_of e
  binary_rule (exprs.power_rule y z m l r a h q e) = ap span_of e
  binary_rule (exprs.private_in_rule y z m l b r H q e) = ap span_of e

  pub assignment_rule : {k : Code} {x : Tree} {c d : Place} → AssignmentRule In k x c d → span_of x ≡ spanned c d
  assignment_rule (exprs.operators_rule r a) = binary_rule r
  assignment_rule (exprs.conditional_rule t y z i j r h p g q a e) = ap span_of e
  assignment_rule (exprs.assign_rule op y z m r a h q e) = ap span_of e
  assignment_rule (exprs.destructuring_rule y z m r a h q e) = ap span_of e
  assignment_rule (exprs.arrow_rule is_async ps body i j w r h a q e) = ap span_of e
  assignment_rule (exprs.bare_yield_rule a h i b e) = ap span_of e
  assignment_rule (exprs.yield_rule y a h b f r e) = ap span_of e
  assignment_rule (exprs.delegate_rule y a h b f r e) = ap span_of e

  pub expression_rule : {k : Code} {x : Tree} {c d : Place} → ExpressionRule In k x c d → span_of x ≡ spanned c d
  expression_rule (exprs.assignment_rule r a) = assignment_rule r
  expression_rule (exprs.sequence_rule y f es r e) = ap span_of e

  pub expr_rule : (class_of : Class) (k : Code) (x : Tree) (c d : Place) → ExprRule In class_of k x c d → span_of x ≡ spanned c d
  expr_rule expression k x c d r = expression_rule r
  expr_rule assignment k x c d r = assignment_rule r
  expr_rule (operator n) k x c d r = binary_rule r.0
  expr_rule unary k x c d r = unary_rule r.0
  expr_rule left_side k x c d r = left_side_rule r.0
  expr_rule callee k x c d r = left_side_rule r.0.0

  -- ---- patterns

  pub pattern_rule : {p : Purpose} {k : Code} {x : Tree} {c d : Place} → PatternRule In p k x c d → span_of x ≡ spanned c d
  pattern_rule (patterns.binding_name_rule text s a r e) = ap span_of e ∙ name_span r
  pattern_rule (patterns.target_name_rule text s a b r e) = ap span_of e ∙ name_span r
  pattern_rule (patterns.target_rule y a r b f e) = ap span_of e ∙ left_side_rule r.0
  pattern_rule (patterns.array_rule es m h r g i e) = ap span_of e
  pattern_rule (patterns.object_rule ps m h r g i e) = ap span_of e

  pub pattern_element : {p : Purpose} {k : Code} {x : Tree} {c d : Place} → PatternElementRule In p k x c d → span_of x ≡ spanned c d
  pattern_element (patterns.bare_rule r a) = pattern_rule r
  pattern_element (patterns.initialized_rule y v m r h q e) = ap span_of e

  -- ---- members of classes

  core : {k : Code} {is_static is_accessor : Bool} {ds x : Tree} {c m d : Place} → CoreRule In k is_static is_accessor ds x c m d → span_of x ≡ spanned c d
  core (classes.constructor_rule y ps body i j a b f r g p q e) = ap span_of e
  core {is_static = is_static} {c = c} {d = d} (classes.method_rule form is_async is_generator y ps body a r b e) = ap span_of e ∙ method_span (spanned c d) y _ form is_static
  core {is_static = is_static} {is_accessor = is_accessor} {ds = ds} {c = c} {d = d} (classes.field_rule y v i j r a p q e) = ap span_of e ∙ field_span (spanned c d) y v is_static is_accessor ds
  core (classes.static_block_rule body a b f r e) = ap span_of e

  pub member : {k : Code} {x : Tree} {c d : Place} → MemberRule In k x c d → span_of x ≡ spanned c d
  member (classes.empty_rule h i e) = ap span_of e
  member (classes.member_rule ds m r q) = core q

  -- ---- decorators

  chain : {k : Code} {x : Tree} {c d : Place} → ChainRule In k x c d → span_of x ≡ spanned c d
  chain (chains.name_rule text s r e) = ap span_of e ∙ name_span r
  chain (chains.member_rule o p m r q a e) = ap span_of e
  chain (chains.call_rule f xs m r q e) = ap span_of e

  pub decorated : {k : Code} {x : Tree} {c d : Place} → DecoratedRule In k x c d → IsSpannedDecorator x c d
  decorated (chains.group_rule r a) = in_parentheses r.close r.opens r.closes r.next (expression_rule r.reads_expression)
  decorated (chains.group_call_rule y xs m r q e) = called_in_parentheses r.opens (ap span_of e)
  decorated (chains.chain_rule r a b) = whole (chain r)

  -- ---- functions and classes

  pub function : {is_expression : Bool} {k : Code} {ds n x : Tree} {c d : Place} → FunctionRule In is_expression k ds n x c d → span_of x ≡ spanned c d
  function r = ap span_of r.is

  pub class : {k : Code} {start : Place} {ds n x : Tree} {c d : Place} → ClassRule In k start ds n x c d → span_of x ≡ spanned start d
  class r = ap span_of r.is
