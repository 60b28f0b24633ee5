-- What trees the rules read: each expression and pattern stands there and is not flat, and a statement that is an `if` begins with that word.
use Rattle.std.proofs.Common.{◌≡◌, ℕ, Bool, false, true≢false, sym, ap, ◌∙◌}
use Rattle.std.specs.Prelude.{◌||◌}
use Rattle.swc_ecma_parser_token.specs.declared.kind.TokenKind.TheVariants as kind
use Rattle.swc_ecma_parser_input.specs.Place.{Place}
use Rattle.swc_ecma_parser_model.specs.Tree.{Tree}
use Rattle.swc_ecma_parser_model.specs.Forms.{is_absent}
use Rattle.swc_ecma_parser_model.specs.Kinds.{is_if}
use Rattle.swc_ecma_parser_grammar.specs.declared.position.Position.{Position}
use Rattle.swc_ecma_parser_grammar.specs.Looks.{sees, same_kind}
use Rattle.swc_ecma_parser_grammar.specs.Names.{Code}
use Rattle.swc_ecma_parser_grammar.specs.language.Goals.{Goal, Class, Purpose, expression, assignment, operator, unary, left_side, callee}
use Rattle.swc_ecma_parser_grammar.specs.language.LeftSides as left
use Rattle.swc_ecma_parser_grammar.specs.language.LeftSides.{PrimaryRule, LeftSideRule}
use Rattle.swc_ecma_parser_grammar.specs.language.Patterns as patterns
use Rattle.swc_ecma_parser_grammar.specs.language.Patterns.{PatternRule}
use Rattle.swc_ecma_parser_grammar.specs.language.Expressions as expressions
use Rattle.swc_ecma_parser_grammar.specs.language.Expressions.{UnaryRule, BinaryRule, AssignmentRule, ExpressionRule, ExprRule}
use Rattle.swc_ecma_parser_grammar.specs.language.Statements as statements
use Rattle.swc_ecma_parser_grammar.specs.language.Statements.{IfRule, FormRule, StmtRule}
use Rattle.swc_ecma_parser_grammar.proofs.language.Asked.{is_flat, or_left, or_right}

-- neither whole nor a part of a statement
abbrev is_part : Tree → Bool
is_part x = is_absent x || is_flat x

module _ (In : Goal → Type 0) where
  -- ---- expressions

  primary_is : {k : Code} {x : Tree} {c d : Place} → PrimaryRule In k x c d → is_part x ≡ false
  primary_is (left.name_rule text s r h e) = ap is_part e
  primary_is (left.string_rule value raw s r e) = ap is_part e
  primary_is (left.true_rule s r e) = ap is_part e
  primary_is (left.false_rule s r e) = ap is_part e
  primary_is (left.null_rule s r e) = ap is_part e
  primary_is (left.number_rule raw s r e) = ap is_part e
  primary_is (left.big_int_rule raw s r e) = ap is_part e
  primary_is (left.regex_rule exp flags s r e) = ap is_part e
  primary_is (left.template_rule es qs r e) = ap is_part e
  primary_is (left.this_rule h g e) = ap is_part e
  primary_is (left.array_rule xs m h r i g e) = ap is_part e
  primary_is (left.object_rule xs m h r i g e) = ap is_part e
  primary_is (left.function_rule name fn r e) = ap is_part e
  primary_is (left.class_rule name body r e) = ap is_part e
  primary_is (left.paren_rule y m h r i g e) = ap is_part e

  left_is : {k : Code} {x : Tree} {c d : Place} → LeftSideRule In k x c d → is_part x ≡ false
  left_is (left.primary_rule r) = primary_is r
  left_is (left.import_meta_rule h i j g o e) = ap is_part e
  left_is (left.new_target_rule H G W N e) = ap is_part e
  left_is (left.member_rule obj property m r n s e) = ap is_part e
  left_is (left.super_property_rule property h r i e) = ap is_part e
  left_is (left.call_rule called args m r n s e) = ap is_part e
  left_is (left.tagged_rule t es qs m r N q e) = ap is_part e
  left_is (left.chain_rule o b m r H q e) = ap is_part e
  left_is (left.linked_rule o b m r N q e) = ap is_part e
  left_is (left.super_call_rule args h r e) = ap is_part e
  left_is (left.import_call_rule args h r e) = ap is_part e
  left_is (left.new_rule called args m h r s e) = ap is_part e
  left_is (left.bare_new_rule called h r e) = ap is_part e

  unary_is : {k : Code} {x : Tree} {c d : Place} → UnaryRule In k x c d → is_part x ≡ false
  unary_is (expressions.operand_rule r) = left_is r.0
  unary_is (expressions.unary_rule op y h r e) = ap is_part e
  unary_is (expressions.prefix_rule op y h r i e) = ap is_part e
  unary_is (expressions.postfix_rule op y m r h i j g e) = ap is_part e
  unary_is (expressions.await_rule y h i r e) = ap is_part e

  binary_is : {k : Code} {n : ℕ} {x : Tree} {c d : Place} → BinaryRule In k n x c d → is_part x ≡ false
  binary_is (expressions.single_rule r) = unary_is r
  binary_is (expressions.left_rule op left right m h i j r o s a b e) = ap is_part e
  binary_is (expressions.power_rule left right m h r i j s e) = ap is_part e
  binary_is (expressions.private_in_rule y z m l b r H q e) = ap is_part e

  assignment_is : {k : Code} {x : Tree} {c d : Place} → AssignmentRule In k x c d → is_part x ≡ false
  assignment_is (expressions.operators_rule r h) = binary_is r
  assignment_is (expressions.conditional_rule test yes_case no_case i j r h s g t o e) = ap is_part e
  assignment_is (expressions.assign_rule op left right m r h i s e) = ap is_part e
  assignment_is (expressions.destructuring_rule left right m r h i s e) = ap is_part e
  assignment_is (expressions.arrow_rule is_async ps body i j a r h g s e) = ap is_part e
  assignment_is (expressions.bare_yield_rule h i g j e) = ap is_part e
  assignment_is (expressions.yield_rule y h i g j r e) = ap is_part e
  assignment_is (expressions.delegate_rule y h i g j r e) = ap is_part e

  expression_is : {k : Code} {x : Tree} {c d : Place} → ExpressionRule In k x c d → is_part x ≡ false
  expression_is (expressions.assignment_rule r h) = assignment_is r
  expression_is (expressions.sequence_rule a b es r e) = ap is_part e

  expr_is_whole : (class : Class) (k : Code) (x : Tree) (c d : Place) → ExprRule In class k x c d → is_part x ≡ false
  expr_is_whole expression k x c d r = expression_is r
  expr_is_whole assignment k x c d r = assignment_is r
  expr_is_whole (operator n) k x c d r = binary_is r.0
  expr_is_whole unary k x c d r = unary_is r.0
  expr_is_whole left_side k x c d r = left_is r.0
  expr_is_whole callee k x c d r = left_is r.0.0

  pub expr_is : (class : Class) (k : Code) (x : Tree) (c d : Place) → ExprRule In class k x c d → is_flat x ≡ false
  expr_is class k x c d r = or_right (is_absent x) (is_flat x) (expr_is_whole class k x c d r)

  pub expr_stands : (class : Class) (k : Code) (x : Tree) (c d : Place) → ExprRule In class k x c d → is_absent x ≡ false
  expr_stands class k x c d r = or_left (is_absent x) (is_flat x) (expr_is_whole class k x c d r)

  -- ---- patterns

  pattern_is_whole : {p : Purpose} {k : Code} {x : Tree} {c d : Place} → PatternRule In p k x c d → is_part x ≡ false
  pattern_is_whole (patterns.binding_name_rule text s h r e) = ap is_part e
  pattern_is_whole (patterns.target_name_rule text s h i r e) = ap is_part e
  pattern_is_whole (patterns.target_rule y h r i j e) = ap is_part e
  pattern_is_whole (patterns.array_rule xs m h r i g e) = ap is_part e
  pattern_is_whole (patterns.object_rule xs m h r i g e) = ap is_part e

  pub pattern_is : {p : Purpose} {k : Code} {x : Tree} {c d : Place} → PatternRule In p k x c d → is_flat x ≡ false
  pattern_is {x = x} r = or_right (is_absent x) (is_flat x) (pattern_is_whole r)

  -- ---- statements

  no_if : {k : Code} {x : Tree} {c d : Place} → IfRule In k x c d → sees kind.If c ≡ false → is_if x ≡ false
  unfolding same_kind
  no_if (statements.if_rule test cons alt m n h r s t e) i = absurd (true≢false (sym (ap (λ t. same_kind t kind.If) h) ∙ i))

  form_is : {k : Code} {at : Position} {x : Tree} {c d : Place} → FormRule In k at x c d → sees kind.If c ≡ false → is_if x ≡ false
  form_is (statements.class_rule decorators name y m h r s i e) o = ap is_if e
  form_is (statements.function_rule decorators name y m r h s i e) o = ap is_if e
  form_is (statements.variables_rule word xs m h r g e) o = ap is_if e
  form_is (statements.using_rule r) o = ap is_if r.is
  form_is (statements.block_rule r) o = ap is_if r.is
  form_is (statements.empty_rule h i e) o = ap is_if e
  form_is (statements.debugger_rule h i e) o = ap is_if e
  form_is (statements.with_rule a y m h r s e) o = ap is_if e
  form_is (statements.return_rule a m h r i e) o = ap is_if e
  form_is (statements.labeled_rule text s y m r h i e) o = ap is_if e
  form_is (statements.break_rule label m h r i e) o = ap is_if e
  form_is (statements.continue_rule label m h r i e) o = ap is_if e
  form_is (statements.if_statement_rule r) o = no_if r o
  form_is (statements.switch_rule a xs m n h r i s j g t e) o = ap is_if e
  form_is (statements.throw_rule a m h i r g e) o = ap is_if e
  form_is (statements.try_rule body handler finalizer m n h r s t i e) o = ap is_if e
  form_is (statements.while_rule a y m h r s e) o = ap is_if e
  form_is (statements.do_while_rule a y m n h r i s g e) o = ap is_if e
  form_is (statements.for_rule init test step y l m n h i r j s g t u v e) o = ap is_if e
  form_is (statements.for_in_rule left right y m n h i r j s g t e) o = ap is_if e
  form_is (statements.for_of_rule is_await left right y l m n h a i r j s g t e) o = ap is_if e
  form_is (statements.expr_rule a m h r i g e) o = ap is_if e
  form_is (statements.import_expr_rule a m h r g e) o = ap is_if e

  pub stmt_is : (k : Code) (at : Position) (x : Tree) (c d : Place) → StmtRule In k at x c d → sees kind.If c ≡ false → is_if x ≡ false
  stmt_is k at x c d r = form_is r.1
