-- Expressions run forward.
use Rattle.std.proofs.Common.{ℕ, ◌≤◌, Bool, true, false, cond, [], ◌∷◌, Option, Some, None, refl}
use Rattle.std.specs.Prelude.{nat_le, ◌&&◌, ◌||◌}
use Rattle.swc_ecma_parser_common.specs.declared.span.Span.{Span}
use Rattle.swc_ecma_parser_error.specs.Kind as faults
use Rattle.swc_ecma_parser_token.specs.declared.kind.TokenKind.TheVariants as kind
use Rattle.swc_ecma_parser_input.specs.Place.{after}
use Rattle.swc_ecma_parser_model.specs.declared.operators.UnaryOp.{UnaryOp}
use Rattle.swc_ecma_parser_model.specs.declared.operators.UpdateOp.{UpdateOp}
use Rattle.swc_ecma_parser_model.specs.declared.operators.BinaryOp.TheVariants as binary
use Rattle.swc_ecma_parser_model.specs.Tree as tree
use Rattle.swc_ecma_parser_model.specs.Tree.{Tree, listed}
use Rattle.swc_ecma_parser_grammar.specs.Follows.{begins_template, is_async_function}
use Rattle.swc_ecma_parser_grammar.specs.Looks.{kind_at, sees, span_at}
use Rattle.swc_ecma_parser_grammar.specs.Names.{name_at}
use Rattle.swc_ecma_parser_grammar.specs.language.Begins.{awaits}
use Rattle.swc_ecma_parser_grammar.specs.language.Goals.{Class, expression, assignment, operator, unary, left_side, callee}
use Rattle.swc_ecma_parser_grammar.specs.language.Operators.{precedence, unary_operator, update_operator}
use Rattle.swc_ecma_parser_reader.specs.Arrows.{begins_named_arrow}
use Rattle.swc_ecma_parser_reader.specs.AsyncArrows.{begins_async_arrow}
use Rattle.swc_ecma_parser_reader.specs.Expressions.{Cover, first_operand, close, literal, begins_async_call, array, object, marked_primary, object_level, literal_or, named_expr, primary, left_head, left, left_expr, postfix, postfix_at, updated, unary_by, unary_expr, binary_expr, operators_expr, plain_expr, open_literal, done_expr, cover_expr, assignment_expr, sequence_turn, sequence_from, expression_expr, expr_level}
use Rattle.swc_ecma_parser_reader.specs.Heads.{sequenced, head_expr}
use Rattle.swc_ecma_parser_reader.specs.Methods.{FunctionForm}
use Rattle.swc_ecma_parser_reader.specs.State.{State, Reader, ◌>>=◌, moved, loop}
use Rattle.swc_ecma_parser_reader.specs.Yields.{begins_yield}
use Rattle.swc_ecma_parser_reader.proofs.Meets.{Meets, Refuses, meets_then, meets_if, wanted_meets, refuse_meets, loop_answers}
use Rattle.swc_ecma_parser_span_order.proofs.Arrows.{named_arrow_straight, async_named_straight, grouped_straight, async_grouped_straight}
use Rattle.swc_ecma_parser_span_order.proofs.Operands.{ReadCover, StraightCover, FunctionsStraight, ReadIf, close_meets, literal_reads, regex_straight, template_straight, private_in_straight, ident_straight, this_straight, closed_left_reads, behind_operand_reads, array_straight, object_straight, paren_straight, super_straight, new_straight, import_straight, prefixed_straight, update_straight, await_straight, yield_straight, left_from_reads, binary_from_reads, behind_operators_reads, behind_literal_reads}
use Rattle.swc_ecma_parser_span_order.proofs.Places.{far, Here, Ahead, Read, ReadMany, Straight, both, onward, first, next, node, reads, part_of}
use Rattle.swc_ecma_parser_span_order.proofs.Trees.{one_more}

module _ (inner : Class → Reader Tree) (cover : Reader Cover) (below : (class : Class) → Straight (inner class)) (below_cover : StraightCover cover)
    (function : FunctionForm → Reader Tree) (below_function : FunctionsStraight function) where
  open_straight : StraightCover (open_literal inner cover function)
  unfolding open_literal
  open_straight s f = meets_then _ (cond (sees kind.LBracket s.at) (array inner cover s) (object inner cover function s)) _
      (meets_if (ReadCover (far (after s.at))) (sees kind.LBracket s.at) _ _ (λ _. array_straight inner cover below below_cover s f) (λ _. object_straight inner cover below below_cover function below_function s f))
      (λ v t h. behind_literal_reads inner cover below below_cover (far (after s.at)) (span_at s.at) f.begins v t h)

  array_closed : (s : State) → Ahead (far (after s.at)) s.at → Meets (Read (far (after s.at))) ((array inner cover >>= close) s)
  array_closed s a = meets_then _ (array inner cover s) _ (array_straight inner cover below below_cover s a.here) (λ v t h. close_meets (Read (far (after s.at))) v t h)

  object_closed : (s : State) → Here s.at → Meets (Read (far (after s.at))) ((object inner cover function >>= close) s)
  object_closed s f = meets_then _ (object inner cover function s) _ (object_straight inner cover below below_cover function below_function s f) (λ v t h. close_meets (Read (far (after s.at))) v t h)

  marked_straight : Straight (marked_primary inner cover function)
  unfolding marked_primary
  marked_straight s f = meets_if _ (sees kind.LParen s.at) _ _ (λ _. paren_straight inner cover below below_cover s f)
      (λ _. meets_if _ (sees kind.LBracket s.at) _ _ (λ _. array_closed s (first f))
      (λ _. meets_if _ (sees kind.LBrace s.at) _ _ (λ _. object_closed s f)
      (λ _. meets_if _ (sees kind.This s.at) _ _ (λ _. this_straight s f)
      (λ _. meets_if _ (sees kind.Function s.at) _ _ (λ _. below_function.expressions s f)
      (λ _. meets_if _ (sees kind.Class s.at) _ _ (λ _. below_function.classes s f)
      (λ _. meets_if _ (sees kind.Regex s.at) _ _ (λ _. regex_straight s f)
      (λ _. meets_if _ (begins_template s.at) _ _ (λ _. template_straight inner cover below below_cover s f) (λ _. wanted_meets _ faults.Unexpected s))))))))

  pub object_level_straight : Straight (object_level inner cover function)
  unfolding object_level
  object_level_straight s f = meets_if _ (sees kind.LBrace s.at) _ _ (λ _. object_closed s f) (λ _. refuse_meets _ faults.Expected s)

  literal_or_reads : (m : ℕ) (o : Option Tree) (s : State) → ReadIf m o s → Meets (Read m) (literal_or inner cover function o s)
  literal_or_reads m (Some x) s h = h
  literal_or_reads m None s h = reads (marked_primary inner cover function) marked_straight s h

  named_straight : Straight (named_expr inner cover function)
  unfolding named_expr
  named_straight s f = meets_if _ (is_async_function s.at) _ _ (λ _. below_function.expressions s f) (λ _. ident_straight s f)

  primary_straight : Straight (primary inner cover function)
  unfolding primary
  primary_straight s f = meets_if _ (name_at s.code.flags s.at) _ _ (λ _. named_straight s f) (λ _. meets_then _ (literal s) _ (literal_reads s f) (λ o t h. literal_or_reads (far (after s.at)) o t h))

  left_head_straight : (calls : Bool) → Straight (left_head inner cover function calls)
  unfolding left_head
  left_head_straight calls s f = meets_if _ (sees kind.Super s.at) _ _ (λ _. super_straight inner cover below below_cover calls s f)
      (λ _. meets_if _ (sees kind.New s.at) _ _ (λ _. new_straight inner cover below below_cover s f)
      (λ _. meets_if _ (calls && sees kind.Import s.at) _ _ (λ _. import_straight inner cover below below_cover s f) (λ _. primary_straight s f)))

  left_straight : (calls : Bool) → Straight (left inner cover function calls)
  unfolding left
  left_straight calls s f = meets_then _ (left_head inner cover function calls s) _ (left_head_straight calls s f) (λ x t h.
      left_from_reads inner cover below below_cover (far (after s.at)) (span_at s.at) f.begins calls x t h)

  left_expr_straight : Straight (left_expr inner cover function)
  unfolding left_expr
  left_expr_straight s f = meets_then _ (left inner cover function true s) _ (left_straight true s f) (λ x t h. closed_left_reads x t h)

  postfix_straight : Straight (postfix inner cover function)
  unfolding postfix
  postfix_straight s f = meets_then _ (left inner cover function true s) _ (left_straight true s f) (λ x t h. behind_operand_reads (far (after s.at)) (span_at s.at) f.begins x (postfix_at t.at) t h)

  updated_straight : (o : Option UpdateOp) → Straight (updated inner cover function o)
  updated_straight (Some op) s f = update_straight inner cover below below_cover op s f
  updated_straight None s f = postfix_straight s f

  unary_by_straight : (o : Option UnaryOp) → Straight (unary_by inner cover function o)
  unary_by_straight (Some op) s f = prefixed_straight inner cover below below_cover op s f
  unary_by_straight None s f = meets_if _ (awaits s.code.flags s.at) _ _ (λ _. await_straight inner cover below below_cover s f) (λ _. updated_straight (update_operator (kind_at s.at)) s f)

  unary_straight : Straight (unary_expr inner cover function)
  unfolding unary_expr
  unary_straight s f = unary_by_straight (unary_operator (kind_at s.at)) s f

  first_operand_straight : (n : ℕ) → Straight (first_operand inner cover function n)
  unfolding first_operand
  first_operand_straight n s f = meets_if _ (nat_le n (precedence binary.In) && sees kind.HashIn s.at) _ _ (λ _. private_in_straight inner cover below below_cover s f) (λ _. unary_straight s f)

  binary_straight : (n : ℕ) → Straight (binary_expr inner cover function n)
  unfolding binary_expr
  binary_straight n s f = meets_then _ (first_operand inner cover function n s) _ (first_operand_straight n s f) (λ x t h. binary_from_reads inner cover below below_cover (far (after s.at)) (span_at s.at) f.begins n x t h)

  operators_straight : Straight (operators_expr inner cover function)
  unfolding operators_expr
  operators_straight s f = meets_then _ (binary_expr inner cover function 1 s) _ (binary_straight 1 s f) (λ x t h.
      behind_operators_reads inner cover below below_cover (far (after s.at)) (span_at s.at) f.begins (begins_async_call s.at) x t h)

  plain_straight : Straight (plain_expr inner cover function)
  unfolding plain_expr
  plain_straight s f = meets_if _ (begins_yield s.code.flags s.at) _ _ (λ _. yield_straight inner cover below below_cover s f)
      (λ _. meets_if _ (begins_named_arrow s.code.flags s.at) _ _ (λ _. named_arrow_straight inner cover below below_cover function below_function s f)
      (λ _. meets_if _ (sees kind.LParen s.at) _ _ (λ _. grouped_straight inner cover below below_cover function below_function s f)
      (λ _. meets_if _ (begins_async_arrow s.code.flags s.at) _ _ (λ _. async_named_straight inner cover below below_cover function below_function s f)
      (λ _. meets_if _ (begins_async_call s.at) _ _ (λ _. async_grouped_straight inner cover below below_cover function below_function s f) (λ _. operators_straight s f)))))

  pub cover_expr_straight : StraightCover (cover_expr inner cover function)
  unfolding cover_expr done_expr
  cover_expr_straight s f = meets_if _ (sees kind.LBracket s.at || sees kind.LBrace s.at) _ _ (λ _. open_straight s f)
      (λ _. meets_then _ (plain_expr inner cover function s) _ (plain_straight s f) (λ x t h. h))

  assignment_straight : Straight (assignment_expr inner cover function)
  unfolding assignment_expr
  assignment_straight s f = meets_then _ (cover_expr inner cover function s) _ (cover_expr_straight s f) (λ v t h. close_meets (Read (far (after s.at))) v t h)

  -- the parts of a sequence
  module _ (m : ℕ) (start : Span) (b : start.lo.0 ≤ m) where
    sequence_reads : (x : Tree) (s : State) → Read m x s → Meets (Read m) (sequence_from inner cover function start x s)
    unfolding sequence_from sequence_turn
    sequence_reads x s h = meets_then _ (loop (sequence_turn inner cover function) (x ∷ []) s) _
        (loop_answers (sequence_turn inner cover function) (ReadMany m) (ReadMany m) Refuses
        (λ xs t g. meets_then _ (assignment_expr inner cover function (moved t)) _ (reads (assignment_expr inner cover function) assignment_straight {m = m} (moved t) (onward (next g.place))) (λ y u k.
        let all = one_more g (part_of k) in meets_if _ (sees kind.Comma u.at) _ _ (λ _. all) (λ _. all)))
        (λ _. tt) (x ∷ []) s (record { straight = both h.straight refl; place = h.place }))
        (λ xs t g. node start (tree.seq _ (listed xs)) b g.place (λ e. both e g.straight) refl)

    sequenced_reads : (v : Cover) (s : State) → ReadCover m v s → Meets (ReadCover m) (sequenced inner cover function start v s)
    unfolding sequenced
    sequenced_reads v s h = meets_then _ (close v s) _ (close_meets (Read m) v s h) (λ x t g. meets_then _ (sequence_from inner cover function start x t) _ (sequence_reads x t g) (λ y u k. k))

  expression_straight : Straight (expression_expr inner cover function)
  unfolding expression_expr
  expression_straight s f = meets_then _ (assignment_expr inner cover function s) _ (assignment_straight s f) (λ x t h.
      meets_if _ (sees kind.Comma t.at) _ _ (λ _. sequence_reads (far (after s.at)) (span_at s.at) f.begins x t h) (λ _. h))

  pub head_expr_straight : StraightCover (head_expr inner cover function)
  unfolding head_expr
  head_expr_straight s f = meets_then _ (cover_expr inner cover function s) _ (cover_expr_straight s f) (λ v t h.
      meets_if _ (sees kind.Comma t.at) _ _ (λ _. sequenced_reads (far (after s.at)) (span_at s.at) f.begins v t h) (λ _. h))

  pub level_straight : (class : Class) → Straight (expr_level inner cover function class)
  unfolding expr_level
  level_straight expression s f = expression_straight s f
  level_straight assignment s f = assignment_straight s f
  level_straight (operator n) s f = binary_straight n s f
  level_straight unary s f = unary_straight s f
  level_straight left_side s f = left_expr_straight s f
  level_straight callee s f = left_straight false s f
