-- The reader of expressions, rule by rule: ECMA-262, section 13. What is read one level further in is read by a reader for each
-- class of expressions.
use Rattle.std.specs.Prelude.{ℕ, nat_le, Bool, true, false, ◌&&◌, ◌||◌, if◌then◌else◌, List, [], ◌∷◌, ◌++◌, Option, Some, None, Ok}
use Rattle.swc_ecma_parser_common.specs.declared.span.Span.{Span}
use Rattle.swc_ecma_parser_error.specs.Kind as faults
use Rattle.swc_ecma_parser_token.specs.declared.kind.TokenKind.TheVariants as kind
use Rattle.swc_ecma_parser_model.specs.declared.operators.UnaryOp.{UnaryOp}
use Rattle.swc_ecma_parser_model.specs.declared.operators.UpdateOp.{UpdateOp}
use Rattle.swc_ecma_parser_model.specs.declared.operators.BinaryOp.TheVariants as binary
use Rattle.swc_ecma_parser_model.specs.Tree as tree
use Rattle.swc_ecma_parser_model.specs.Tree.{Tree, listed}
use Rattle.swc_ecma_parser_grammar.specs.Looks.{kind_at, sees, span_at}
use Rattle.swc_ecma_parser_grammar.specs.Names.{name_at}
use Rattle.swc_ecma_parser_grammar.specs.Follows.{begins_template, is_async_function}
use Rattle.swc_ecma_parser_grammar.specs.language.Goals.{Class, expression, assignment, operator, unary, left_side, callee}
use Rattle.swc_ecma_parser_grammar.specs.language.Begins.{awaits}
use Rattle.swc_ecma_parser_grammar.specs.language.Operators.{unary_operator, update_operator, precedence}
use Rattle.swc_ecma_parser_reader.specs.Yields.{begins_yield, yield_expr}
use Rattle.swc_ecma_parser_reader.specs.Methods.{FunctionForm, expression_form, class_form}
use Rattle.swc_ecma_parser_reader.specs.State.{Reader, ◌>>=◌, ◌>>◌, pure, span_here, since, skip, wanted, refuse, Step, More, Done, loop}
unfoldable pub use Rattle.swc_ecma_parser_reader.specs.Words.{word_by, word_in, any_word, touching_word, private_name, begins_async_call, is_head, heads_arrow}
pub use Rattle.swc_ecma_parser_reader.specs.Templates.{Pieces}
unfoldable pub use Rattle.swc_ecma_parser_reader.specs.Templates.{regex_of, regex_in, regex_or, regex, text_of, text_in, is_tail, is_cooked, text_or, template_text, first_piece, with_piece, template_of}
pub use Rattle.swc_ecma_parser_reader.specs.Operands.{Cover, Covers}
unfoldable pub use Rattle.swc_ecma_parser_reader.specs.Operands.{new_target, chain_of, linked, in_word, behind_text, template_turn, template_from, template_pieces, template, tagged_by, tagged, named_link, behind_question, chained, behind_called, new_called, private_in, literal_of, literal_in, taken, literal, word_property, token_is_word, first_is_word, is_word_at, key_or, literal_key, shorthand_name, shorthand, dotted, ident_expr, this, meta_fault, import_meta, more, bare_new, closed_left, simple, update_behind, behind_operand, postfix_at, misplaced_await, await_allowed, right_class, read_operator, operator_at, left_operand, unmixed, unassigned, unassignable, unheaded, first_mark, no_covers, with_cover, with_comma, is_literal, done, part_as, whole_of, unmarked, close, target_or, target, goes_on, inside, brackets, access, spread_element, plain_element, element, behind_comma, behind_argument, arguments_turn, arguments, covered, spread_item, plain_item, item, behind_item, array_turn, elements, array, computed_key, key, key_value, initialized, initialized_name, initialized_key, bare_key, behind_key, spread_property, behind_property, method, behind_words, keyed_property, property, object_turn, properties, object, empty_paren, filled_paren, paren, accessed, called, left_turn, left_from, super_call, super_property, super_access, behind_super, super_head, constructed, new_head, import_call, import_head, prefixed, update_before, await_expr, operated, binary_by, binary_turn, binary_from, conditional, assigned_to, assigned, assigned_or, behind_operators, postfixed, continued, closed, assigned_pattern, behind_literal}
use Rattle.swc_ecma_parser_reader.specs.Arrows.{begins_named_arrow, named_arrow, grouped}
use Rattle.swc_ecma_parser_reader.specs.AsyncArrows.{begins_async_arrow, async_named_arrow, async_grouped}

module _ (inner : Class → Reader Tree) (cover : Reader Cover) where
  -- ---- what may begin with a function, or hold one that is no expression, which a reader of its own reads

  module _ (function : FunctionForm → Reader Tree) where
    unfoldable pub open_literal : Reader Cover
    open_literal = do
      start ← span_here
      v ← (λ s. if sees kind.LBracket s.at then array inner cover s else object inner cover function s)
      behind_literal inner cover start v

    unfoldable pub marked_primary : Reader Tree
    marked_primary = λ s.
        if sees kind.LParen s.at then paren inner cover s
        else if sees kind.LBracket s.at then (array inner cover >>= close) s
        else if sees kind.LBrace s.at then (object inner cover function >>= close) s
        else if sees kind.This s.at then this s
        else if sees kind.Function s.at then function expression_form s
        else if sees kind.Class s.at then function class_form s
        else if sees kind.Regex s.at then regex s
        else if begins_template s.at then template inner cover s
        else wanted faults.Unexpected s

    -- an object alone, whatever goes on behind it
    unfoldable pub object_level : Reader Tree
    object_level = λ s. if sees kind.LBrace s.at then (object inner cover function >>= close) s else refuse faults.Expected s

    abbrev pub literal_or : Option Tree → Reader Tree
    literal_or (Some x) = pure x
    literal_or None = marked_primary

    -- `async function` on one line is no name
    unfoldable pub named_expr : Reader Tree
    named_expr = λ s. if is_async_function s.at then function expression_form s else ident_expr s

    unfoldable pub primary : Reader Tree
    primary = λ s. if name_at s.code.flags s.at then named_expr s else (literal >>= literal_or) s

    -- `new` does not call what `import` calls
    unfoldable pub left_head : Bool → Reader Tree
    left_head calls = λ s.
        if sees kind.Super s.at then super_head inner cover calls s
        else if sees kind.New s.at then new_head inner cover s
        else if calls && sees kind.Import s.at then import_head inner cover s
        else primary s

    -- with calls, or as what `new` calls
    unfoldable pub left : Bool → Reader Tree
    left calls = do
      start ← span_here
      x ← left_head calls
      left_from inner cover calls start x

    unfoldable pub left_expr : Reader Tree
    left_expr = left true >>= closed_left

    unfoldable pub postfix : Reader Tree
    postfix = do
      start ← span_here
      e ← left true
      λ s. behind_operand start e (postfix_at s.at) s

    abbrev pub updated : Option UpdateOp → Reader Tree
    updated (Some op) = update_before inner cover op
    updated None = postfix

    abbrev pub unary_by : Option UnaryOp → Reader Tree
    unary_by (Some op) = prefixed inner cover op
    unary_by None = λ s. if awaits s.code.flags s.at then await_expr inner cover s else updated (update_operator (kind_at s.at)) s

    unfoldable pub unary_expr : Reader Tree
    unary_expr = λ s. unary_by (unary_operator (kind_at s.at)) s

    -- the first operand, which a private name begins where `in` binds so tightly
    unfoldable pub first_operand : ℕ → Reader Tree
    first_operand n = λ s. if nat_le n (precedence binary.In) && sees kind.HashIn s.at then private_in inner cover s else unary_expr s

    unfoldable pub binary_expr : ℕ → Reader Tree
    binary_expr n = do
      start ← span_here
      x ← first_operand n
      binary_from inner cover n start x

    -- operands and operators, and what stands behind them
    unfoldable pub operators_expr : Reader Tree
    operators_expr = λ s. (do
      x ← binary_expr 1
      behind_operators inner cover (begins_async_call s.at) (span_at s.at) x) s

    -- `yield` and arrow functions are no operands; what stands in parentheses may head an arrow function, behind `async` too
    unfoldable pub plain_expr : Reader Tree
    plain_expr = λ s.
        if begins_yield s.code.flags s.at then yield_expr inner s
        else if begins_named_arrow s.code.flags s.at then named_arrow inner function s
        else if sees kind.LParen s.at then grouped inner function cover s
        else if begins_async_arrow s.code.flags s.at then async_named_arrow inner function s
        else if begins_async_call s.at then async_grouped inner function cover s
        else operators_expr s

    unfoldable pub done_expr : Reader Cover
    done_expr = do
      x ← plain_expr
      pure (done x)

    unfoldable pub cover_expr : Reader Cover
    cover_expr = λ s. if sees kind.LBracket s.at || sees kind.LBrace s.at then open_literal s else done_expr s

    unfoldable pub assignment_expr : Reader Tree
    assignment_expr = cover_expr >>= close

    -- ---- Expression: section 13.16

    unfoldable pub sequence_turn : List Tree → Reader (Step (List Tree) (List Tree))
    sequence_turn found = do
      skip
      x ← assignment_expr
      λ s. if sees kind.Comma s.at then Ok (More (found ++ x ∷ []), s) else Ok (Done (found ++ x ∷ []), s)

    unfoldable pub sequence_from : Span → Tree → Reader Tree
    sequence_from start x = do
      xs ← loop sequence_turn (x ∷ [])
      span ← since start
      pure (tree.seq span (listed xs))

    unfoldable pub expression_expr : Reader Tree
    expression_expr = do
      start ← span_here
      x ← assignment_expr
      λ s. if sees kind.Comma s.at then sequence_from start x s else Ok (x, s)

    -- ---- an expression of a class

    unfoldable pub expr_level : Class → Reader Tree
    expr_level expression = expression_expr
    expr_level assignment = assignment_expr
    expr_level (operator n) = binary_expr n
    expr_level unary = unary_expr
    expr_level left_side = left_expr
    expr_level callee = left false
