-- What must not stand behind an expression: the tokens that go on with it within its class. So nothing ends an expression but
-- what cannot go on with it, and `;` is inserted nowhere else.
use Rattle.std.specs.Prelude.{ℕ, Bool, true, false, not, ◌&&◌, ◌||◌, Option, Some, None, is_some, nat_le, codes}
use Rattle.swc_ecma_parser_token.specs.declared.kind.TokenKind.TheVariants as kind
use Rattle.swc_ecma_parser_model.specs.declared.operators.BinaryOp.{BinaryOp}
use Rattle.swc_ecma_parser_input.specs.Place.{Place, after}
use Rattle.swc_ecma_parser_model.specs.Tree as tree
use Rattle.swc_ecma_parser_model.specs.Tree.{Tree}
use Rattle.swc_ecma_parser_model.specs.Forms.{is_ident_named}
use Rattle.swc_ecma_parser_grammar.specs.Looks.{kind_at, breaks_at, sees}
use Rattle.swc_ecma_parser_grammar.specs.Names.{Code, identifier_at}
use Rattle.swc_ecma_parser_grammar.specs.Follows.{continues_left_side, begins_template, word_at}
use Rattle.swc_ecma_parser_grammar.specs.language.Begins.{begins_expression}
use Rattle.swc_ecma_parser_grammar.specs.language.Operators.{binary_operator, assign_operator, precedence, is_operator}

-- what `new` calls: an access, arguments, a template or an optional chain
unfoldable pub continues_callee : Place → Bool
continues_callee d = sees kind.Dot d || (sees kind.LBracket d || (sees kind.LParen d || (sees kind.QuestionDot d || begins_template d)))

-- An expression that ends with an operand of an operator, or with the operator itself: what could go on with that operand was
-- asked there.
abbrev pub is_operation : Tree → Bool
is_operation (tree.unary s op arg) = true
is_operation (tree.update s op prefix arg) = true
is_operation (tree.await s arg) = true
is_operation (tree.bin s op left right) = true
is_operation _ = false

-- an access, arguments, or a postfix operator on the line
unfoldable pub continues_unary : Tree → Place → Bool
continues_unary x d = not (is_operation x) && continues_left_side d

abbrev pub binds : Code → ℕ → Option BinaryOp → Bool
binds k n None = false
binds k n (Some op) = is_operator k op && nat_le n (precedence op)

-- a binary operator that binds at least so tightly
unfoldable pub continues_operand : Code → ℕ → Tree → Place → Bool
continues_operand k n x d = continues_unary x d || binds k n (binary_operator (kind_at d))

-- `async` and its arguments on one line
abbrev pub is_async_call : Tree → Place → Bool
is_async_call (tree.call s callee args) c = is_ident_named (codes "async") callee && (word_at (codes "async") c && (sees kind.LParen (after c) && not (breaks_at (after c))))
is_async_call _ c = false

-- what stands before `=>` in an arrow, from this place on
abbrev pub is_arrow_head : Tree → Place → Bool
is_arrow_head (tree.ident s text) c = true
is_arrow_head (tree.paren s e) c = true
is_arrow_head x c = is_async_call x c

-- the head of an arrow, and `async` before the name of one on its line
unfoldable pub continues_head : Code → Tree → Place → Place → Bool
continues_head k x c d =
    (is_arrow_head x c && sees kind.Arrow d)
    || (is_ident_named (codes "async") x && (not (breaks_at d) && identifier_at k.flags d))

unfoldable pub continues_conditional : Place → Bool
continues_conditional d = is_some (assign_operator (kind_at d))

-- what an assignment expression is that is neither a conditional nor an assignment, an arrow or `yield`
unfoldable pub continues_assignment : Code → Tree → Place → Place → Bool
continues_assignment k x c d = continues_operand k 1 x d || (sees kind.QuestionMark d || (continues_conditional d || continues_head k x c d))

-- `yield` without argument: what begins one, on its line
unfoldable pub continues_yield : Code → Place → Bool
continues_yield k d = not (breaks_at d) && (sees kind.Mul d || begins_expression k.flags d)
