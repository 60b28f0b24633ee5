-- Expressions from unary operators on: ECMA-262, sections 13.4 to 13.16, 15.3 and 15.9 (arrows), 15.5 (`yield`) and 15.8 (`await`).
--
-- A rule closes its expression where it asks that no token behind it goes on with it (`Continues`). Each says whether it does.
use Rattle.std.specs.Prelude.{◌≡◌, ℕ, suc, ◌≤◌, Bool, true, false, List, [], ◌∷◌, Some}
use Rattle.swc_ecma_parser_token.specs.declared.kind.TokenKind.TheVariants as kind
use Rattle.swc_ecma_parser_input.specs.Place.{Place, after}
use Rattle.swc_ecma_parser_model.specs.declared.operators.UnaryOp.{UnaryOp}
use Rattle.swc_ecma_parser_model.specs.declared.operators.UpdateOp.{UpdateOp}
use Rattle.swc_ecma_parser_model.specs.declared.operators.BinaryOp.{BinaryOp}
use Rattle.swc_ecma_parser_model.specs.declared.operators.BinaryOp.TheVariants as binary
use Rattle.swc_ecma_parser_model.specs.declared.operators.AssignOp.{AssignOp}
use Rattle.swc_ecma_parser_model.specs.declared.operators.AssignOp.TheVariants as assign
use Rattle.swc_ecma_parser_model.specs.Tree as tree
use Rattle.swc_ecma_parser_model.specs.Tree.{Tree, listed}
use Rattle.swc_ecma_parser_model.specs.Forms.{is_simple_target, is_pattern_target, is_binding_name}
use Rattle.swc_ecma_parser_grammar.specs.Looks.{kind_at, breaks_at, sees, spanned}
use Rattle.swc_ecma_parser_grammar.specs.Names.{Code}
use Rattle.swc_ecma_parser_grammar.specs.Follows.{continues_left_side, AsyncWord}
use Rattle.swc_ecma_parser_grammar.specs.language.Lists.{ReadsSeparated}
use Rattle.swc_ecma_parser_grammar.specs.language.Goals.{Goal, Class, expression, assignment, operator, unary, left_side, callee, assigning, binding, expr_goal, pattern_goal}
use Rattle.swc_ecma_parser_grammar.specs.language.Contexts.{in_arrow, may_await, with_in}
use Rattle.swc_ecma_parser_grammar.specs.language.Begins.{awaits, begins_expression}
use Rattle.swc_ecma_parser_grammar.specs.language.Operators.{unary_operator, update_operator, binary_operator, assign_operator, precedence, groups_left, is_operator, mixes, is_unary}
use Rattle.swc_ecma_parser_grammar.specs.language.Continues.{continues_callee, continues_unary, continues_operand, continues_conditional, continues_assignment, continues_yield}
use Rattle.swc_ecma_parser_grammar.specs.language.Parts.{PrivateOperandRule}
use Rattle.swc_ecma_parser_grammar.specs.language.Functions.{ParametersRule}
use Rattle.swc_ecma_parser_grammar.specs.language.Items.{BlockRule}
use Rattle.swc_ecma_parser_grammar.specs.language.LeftSides.{LeftSideRule, CalleeRule, OperandRule}
use Rattle.swc_ecma_parser_grammar.specs.language.Patterns.{PatternRule}

-- UnaryExpression and UpdateExpression, sections 13.4 and 13.5; AwaitExpression of section 15.8. It does not close, but what stands
-- behind a prefix operator is closed.
pub data UnaryRule (In : Goal → Type 0) (k : Code) (x : Tree) (c d : Place) : Type 0 where
  operand_rule : OperandRule In k x c d → UnaryRule In k x c d
  unary_rule : (op : UnaryOp) (e : Tree) → unary_operator (kind_at c) ≡ Some op → In (expr_goal unary k e (after c) d) → x ≡ tree.unary (spanned c d) op e → UnaryRule In k x c d
  prefix_rule : (op : UpdateOp) (e : Tree) → update_operator (kind_at c) ≡ Some op → In (expr_goal unary k e (after c) d) → is_simple_target e ≡ true
      → x ≡ tree.update (spanned c d) op true e → UnaryRule In k x c d
  postfix_rule : (op : UpdateOp) (e : Tree) (m : Place) → OperandRule In k e c m → is_simple_target e ≡ true → breaks_at m ≡ false → update_operator (kind_at m) ≡ Some op → d ≡ after m
      → x ≡ tree.update (spanned c d) op false e → UnaryRule In k x c d
  await_rule : (e : Tree) → awaits k.flags c ≡ true → may_await k ≡ true → In (expr_goal unary k e (after c) d) → x ≡ tree.await (spanned c d) e → UnaryRule In k x c d

-- Operands with operators between that bind at least so tightly, sections 13.6 to 13.13. A left operand stands at the level of
-- the whole. It does not close, but each right operand is closed within its own class.
pub data BinaryRule (In : Goal → Type 0) (k : Code) : ℕ → Tree → Place → Place → Type 0 where
  single_rule : {n : ℕ} {x : Tree} {c d : Place} → UnaryRule In k x c d → BinaryRule In k n x c d
  left_rule : {n : ℕ} {x : Tree} {c d : Place} (op : BinaryOp) (left right : Tree) (m : Place) → n ≤ precedence op → groups_left op ≡ true → is_operator k op ≡ true
      → BinaryRule In k (precedence op) left c m → binary_operator (kind_at m) ≡ Some op → In (expr_goal (operator (suc (precedence op))) k right (after m) d)
      → mixes op left ≡ false → mixes op right ≡ false → x ≡ tree.bin (spanned c d) op left right → BinaryRule In k n x c d
  -- no unary operator stands left of `**`, but `++` and `--` may
  power_rule : {n : ℕ} {x : Tree} {c d : Place} (left right : Tree) (m : Place) → n ≤ precedence binary.Exp → UnaryRule In k left c m → is_unary left ≡ false → kind_at m ≡ kind.Exp
      → In (expr_goal (operator (precedence binary.Exp)) k right (after m) d) → x ≡ tree.bin (spanned c d) binary.Exp left right → BinaryRule In k n x c d
  -- section 13.10: a private name is an operand left of `in` alone, where that is an operator
  private_in_rule : {n : ℕ} {x : Tree} {c d : Place} (name right : Tree) (m : Place) → n ≤ precedence binary.In → is_operator k binary.In ≡ true → PrivateOperandRule name c m
      → kind_at m ≡ kind.In → In (expr_goal (operator (suc (precedence binary.In))) k right (after m) d) → x ≡ tree.bin (spanned c d) binary.In name right → BinaryRule In k n x c d

-- ---- arrows: sections 15.3 and 15.9

-- A single name, one level further in as any parameter, or parameters in parentheses. It is no expression: `=>` stands behind it.
pub data ArrowHeadRule (In : Goal → Type 0) (k : Code) (patterns : List Tree) (c d : Place) : Type 0 where
  name_head : (p : Tree) → In (pattern_goal binding k p c d) → is_binding_name p ≡ true → patterns ≡ p ∷ [] → ArrowHeadRule In k patterns c d
  parameters_head : ParametersRule In (with_in k) patterns c d → ArrowHeadRule In k patterns c d

-- A block, whose directives are its own, or an expression that does not begin as one. It closes, but for a comma: no token goes on
-- with an arrow behind the `}` of its block, and the expression is closed.
pub data ArrowBodyRule (In : Goal → Type 0) (k : Code) (is_async : Bool) (x : Tree) (c d : Place) : Type 0 where
  block_body : BlockRule In (with_in (in_arrow k is_async)) true x c d → ArrowBodyRule In k is_async x c d
  expression_body : sees kind.LBrace c ≡ false → In (expr_goal assignment (in_arrow k is_async) x c d) → ArrowBodyRule In k is_async x c d

-- ---- AssignmentExpression: section 13.15

-- It closes, but for a comma: what a form ends with is closed, or the form says what must not follow.
pub data AssignmentRule (In : Goal → Type 0) (k : Code) (x : Tree) (c d : Place) : Type 0 where
  operators_rule : BinaryRule In k 1 x c d → continues_assignment k x c d ≡ false → AssignmentRule In k x c d
  -- section 13.14
  conditional_rule : (test yes_case no_case : Tree) (i j : Place) → BinaryRule In k 1 test c i → kind_at i ≡ kind.QuestionMark → In (expr_goal assignment (with_in k) yes_case (after i) j)
      → kind_at j ≡ kind.Colon → In (expr_goal assignment k no_case (after j) d) → continues_conditional d ≡ false → x ≡ tree.cond (spanned c d) test yes_case no_case
      → AssignmentRule In k x c d
  -- a name or a member, in any number of parentheses, stands before each operator
  assign_rule : (op : AssignOp) (left right : Tree) (m : Place) → OperandRule In k left c m → is_simple_target left ≡ true → assign_operator (kind_at m) ≡ Some op
      → In (expr_goal assignment k right (after m) d) → x ≡ tree.assign (spanned c d) op left right → AssignmentRule In k x c d
  -- a pattern stands before `=` alone
  destructuring_rule : (left right : Tree) (m : Place) → PatternRule In assigning k left c m → is_pattern_target left ≡ true → kind_at m ≡ kind.Assign
      → In (expr_goal assignment k right (after m) d) → x ≡ tree.assign (spanned c d) assign.Assign left right → AssignmentRule In k x c d
  -- sections 15.3 and 15.9: `async` stands on the line of what follows it, and `=>` on that of the parameters' end
  arrow_rule : (is_async : Bool) (patterns : List Tree) (body : Tree) (i j : Place) → AsyncWord is_async c i → ArrowHeadRule In k patterns i j → kind_at j ≡ kind.Arrow → breaks_at j ≡ false
      → ArrowBodyRule In k is_async body (after j) d → x ≡ tree.arrow (spanned c d) (listed patterns) body is_async → AssignmentRule In k x c d
  -- section 15.5: the argument, or `*`, stands on the line of `yield`
  bare_yield_rule : k.flags.in_generator ≡ true → kind_at c ≡ kind.Yield → d ≡ after c → continues_yield k d ≡ false → x ≡ tree.yield (spanned c d) tree.absent false
      → AssignmentRule In k x c d
  yield_rule : (e : Tree) → k.flags.in_generator ≡ true → kind_at c ≡ kind.Yield → breaks_at (after c) ≡ false → begins_expression k.flags (after c) ≡ true
      → In (expr_goal assignment k e (after c) d) → x ≡ tree.yield (spanned c d) e false → AssignmentRule In k x c d
  delegate_rule : (e : Tree) → k.flags.in_generator ≡ true → kind_at c ≡ kind.Yield → breaks_at (after c) ≡ false → kind_at (after c) ≡ kind.Mul
      → In (expr_goal assignment k e (after (after c)) d) → x ≡ tree.yield (spanned c d) e true → AssignmentRule In k x c d

-- Expression, section 13.16: the parts of a sequence stand at its own level. It closes: no comma stands behind it.
pub data ExpressionRule (In : Goal → Type 0) (k : Code) (x : Tree) (c d : Place) : Type 0 where
  assignment_rule : AssignmentRule In k x c d → sees kind.Comma d ≡ false → ExpressionRule In k x c d
  sequence_rule : (e f : Tree) (es : List Tree) → ReadsSeparated (AssignmentRule In k) (e ∷ f ∷ es) c d → x ≡ tree.seq (spanned c d) (listed (e ∷ f ∷ es)) → ExpressionRule In k x c d

-- An expression of a class. It closes: no token stands behind it that goes on with it within that class. Where a rule does not close,
-- that is asked here.
abbrev pub ExprRule : (Goal → Type 0) → Class → Code → Tree → Place → Place → Type 0
ExprRule In expression k x c d = ExpressionRule In k x c d
ExprRule In assignment k x c d = AssignmentRule In k x c d
ExprRule In (operator n) k x c d = BinaryRule In k n x c d × (continues_operand k n x d ≡ false)
ExprRule In unary k x c d = UnaryRule In k x c d × (continues_unary x d ≡ false)
ExprRule In left_side k x c d = LeftSideRule In k x c d × (continues_left_side d ≡ false)
ExprRule In callee k x c d = CalleeRule In k x c d × (continues_callee d ≡ false)
