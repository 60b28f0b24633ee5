-- In so many levels: expressions, patterns, members and statements run forward.
use Rattle.std.proofs.Common.{ℕ, zero, suc, false}
use Rattle.std.specs.Prelude.{◌&&◌}
use Rattle.swc_ecma_parser_token.specs.declared.kind.TokenKind.TheVariants as kind
use Rattle.swc_ecma_parser_input.specs.Place.{after}
use Rattle.swc_ecma_parser_model.specs.declared.leaves.VarDeclKind.TheVariants as decl
use Rattle.swc_ecma_parser_grammar.specs.declared.position.Position.{Position}
use Rattle.swc_ecma_parser_grammar.specs.Looks.{sees}
use Rattle.swc_ecma_parser_grammar.specs.language.Items.{nested_item}
use Rattle.swc_ecma_parser_grammar.specs.language.Goals.{Class, expression, left_side}
use Rattle.swc_ecma_parser_reader.specs.Members.{class_expr}
use Rattle.swc_ecma_parser_reader.specs.Reader as reader
use Rattle.swc_ecma_parser_reader.specs.Reader.{expr, cover, head_cover, pattern, element, decorated_in, member, right_operand, stmt, operators, plain_stmt, function, declarators, stmt_level, object_alone, top_await_fault, top_await, whole_stmt}
use Rattle.swc_ecma_parser_reader.specs.State.{State, module_found}
use Rattle.swc_ecma_parser_reader.proofs.Keeps.{loses_nothing}
use Rattle.swc_ecma_parser_reader.proofs.Meets.{Meets, meets_then, meets_if, too_deep_meets}
use Rattle.swc_ecma_parser_span_order.proofs.Classes.{StraightPart, member_straight, class_expr_straight}
use Rattle.swc_ecma_parser_span_order.proofs.Decorators.{decorated_straight, either_straight}
use Rattle.swc_ecma_parser_span_order.proofs.Expressions as expressions
use Rattle.swc_ecma_parser_span_order.proofs.Functions.{functions_straight}
use Rattle.swc_ecma_parser_span_order.proofs.Loops.{declarators_read, await_using_or_straight}
use Rattle.swc_ecma_parser_span_order.proofs.Operands.{StraightCover, FunctionsStraight, binary_from_reads}
use Rattle.swc_ecma_parser_span_order.proofs.Patterns as patterns
use Rattle.swc_ecma_parser_span_order.proofs.Places.{far, Ahead, Straight, StraightMany, first, reads}
use Rattle.swc_ecma_parser_span_order.proofs.Statements.{OperatorsStraight, level_straight}
use Rattle.swc_ecma_parser_span_order.proofs.Steps.{Looked, fault_ahead}

pub record StraightAt (n : ℕ) : Type 0 where
  pub exprs : (class : Class) → Straight (expr n class)
  pub covers : StraightCover (cover n)
  pub heads : StraightCover (head_cover n)
  pub patterns : Straight (pattern n)
  pub elements : Straight (element n)
  pub decorateds : Straight (decorated_in n)
  pub members : StraightPart (member n)
  pub operands : (class : Class) → Straight (right_operand n class)
  pub stmts : (at : Position) → Straight (stmt n at)

module _ (n : ℕ) (b : StraightAt n) where
  parameters_at : StraightMany (reader.parameters n)
  parameters_at = patterns.parameters_straight (expr n) (cover n) (pattern n) (element n) b.exprs b.covers b.patterns b.elements

  functions_at : FunctionsStraight (function n)
  unfolding function
  functions_at = functions_straight (stmt n nested_item) (b.stmts nested_item) (reader.parameters n) parameters_at (pattern n) (class_expr (expr n left_side) (member n)) b.patterns
      (class_expr_straight (expr n left_side) (member n) (b.exprs left_side) b.members)

  operators_at : OperatorsStraight (operators n)
  operators_at m start c x s h = binary_from_reads (right_operand n) (cover n) b.operands b.covers m start c 1 x s h

  plain_at : (at : Position) → Straight (plain_stmt n at)
  plain_at at = await_using_or_straight (declarators (expr n) (pattern n) false decl.Var) (declarators_read (expr n) (pattern n) b.exprs b.patterns false decl.Var) (reader.nests n)
      (stmt_level (stmt n) (expr n) (pattern n) (head_cover n) (reader.parameters n) (member n) (operators n)) at
      (level_straight (stmt n) (expr n) (pattern n) (head_cover n) (reader.parameters n) (member n) (operators n) b.stmts b.exprs b.patterns b.heads parameters_at b.members operators_at (loses_nothing n) at)

  exprs_at : (class : Class) → Straight (expr (suc n) class)
  unfolding function expr
  exprs_at class s f = expressions.level_straight (expr n) (cover n) b.exprs b.covers (function n) functions_at class s f

all_straight : (n : ℕ) → StraightAt n
unfolding function expr cover head_cover pattern element decorated_in member right_operand stmt
all_straight zero = record {
  exprs = λ class s f. too_deep_meets _ s;
  covers = λ s f. too_deep_meets _ s;
  heads = λ s f. too_deep_meets _ s;
  patterns = λ s f. too_deep_meets _ s;
  elements = λ s f. too_deep_meets _ s;
  decorateds = λ s f. too_deep_meets _ s;
  members = λ s f. too_deep_meets _ s;
  operands = λ class s f. too_deep_meets _ s;
  stmts = λ at s f. too_deep_meets _ s;
}
all_straight (suc n) = let a = all_straight n in record {
  exprs = exprs_at n a;
  covers = expressions.cover_expr_straight (expr n) (cover n) a.exprs a.covers (function n) (functions_at n a);
  heads = expressions.head_expr_straight (expr n) (cover n) a.exprs a.covers (function n) (functions_at n a);
  patterns = patterns.pattern_straight (expr n) (cover n) (pattern n) (element n) a.exprs a.covers a.patterns a.elements;
  elements = patterns.element_straight (expr n) (cover n) (pattern n) (element n) a.exprs a.covers a.patterns a.elements;
  decorateds = decorated_straight (expr n) (cover n) a.exprs a.covers (expr (suc n) expression) (exprs_at n a expression);
  members = member_straight (expr n) (cover n) (stmt n nested_item) (reader.parameters n) a.exprs a.covers (a.stmts nested_item) (parameters_at n a) (decorated_in n) a.decorateds;
  operands = a.exprs;
  stmts = either_straight (plain_stmt n) (plain_at n a) (decorated_in n) a.decorateds;
}

-- ---- what other readers are made of

pub expr_straight : (n : ℕ) (class : Class) → Straight (expr n class)
expr_straight n = (all_straight n).exprs

pub cover_straight : (n : ℕ) → StraightCover (cover n)
cover_straight n = (all_straight n).covers

pub pattern_is_straight : (n : ℕ) → Straight (pattern n)
pattern_is_straight n = (all_straight n).patterns

pub functions_are_straight : (n : ℕ) → FunctionsStraight (function n)
functions_are_straight n = functions_at n (all_straight n)

pub decorated_in_straight : (n : ℕ) → Straight (decorated_in n)
decorated_in_straight n = (all_straight n).decorateds

pub member_is_straight : (n : ℕ) → StraightPart (member n)
member_is_straight n = (all_straight n).members

pub parameters_are_straight : (n : ℕ) → StraightMany (reader.parameters n)
parameters_are_straight n = parameters_at n (all_straight n)

pub stmt_straight : (n : ℕ) (at : Position) → Straight (stmt n at)
stmt_straight n = (all_straight n).stmts

pub plain_stmt_straight : (n : ℕ) (at : Position) → Straight (plain_stmt n at)
plain_stmt_straight n = plain_at n (all_straight n)

pub object_alone_straight : (n : ℕ) → Straight (object_alone n)
unfolding object_alone
object_alone_straight zero s f = too_deep_meets _ s
object_alone_straight (suc n) s f = expressions.object_level_straight (expr n) (cover n) (expr_straight n) (cover_straight n) (function n) (functions_are_straight n) s f

-- ---- a statement that stands in no other

top_await_ahead : (m : ℕ) (at : Position) (s : State) → Ahead m s.at → Meets (Looked m) (top_await at s)
unfolding top_await top_await_fault
top_await_ahead m at s a = meets_if (Looked m) (at.top_level && sees kind.Await s.at) _ _
    (λ _. meets_if (Looked m) s.code.flags.can_be_module _ _ (λ _. a) (λ _. fault_ahead m (module_found s) a _)) (λ _. a)

pub whole_straight : (n : ℕ) (at : Position) → Straight (whole_stmt n at)
unfolding whole_stmt
whole_straight n at s f = meets_then _ (top_await at s) _ (top_await_ahead (far (after s.at)) at s (first f)) (λ _ t a. reads (stmt n at) (stmt_straight n at) t a)
