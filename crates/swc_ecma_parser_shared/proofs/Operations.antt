-- The turns of the loop over operators, in the shapes that it meets them.
use Rattle.std.proofs.Common.{◌≡◌, ℕ, ◌<◌, length, Some, None, Ok, Err}
use Rattle.swc_ecma_parser_common.specs.declared.span.Span.{Span}
use Rattle.swc_ecma_parser_error.specs.Kind.{Fault}
use Rattle.swc_ecma_parser_model.specs.declared.operators.BinaryOp.{BinaryOp}
use Rattle.swc_ecma_parser_model.specs.Tree.{Tree}
use Rattle.swc_ecma_parser_grammar.specs.language.Goals.{Class}
use Rattle.swc_ecma_parser_shared.specs.declared.operators.Operands.{Operands}
use Rattle.swc_ecma_parser_shared.specs.declared.operators.Operands.TheVariants as operands
use Rattle.swc_ecma_parser_shared.specs.Operators.{right}
use Rattle.swc_ecma_parser_reader.specs.Expressions.{operator_at, operated, binary_turn}
use Rattle.swc_ecma_parser_reader.specs.Reader.{cover}
use Rattle.swc_ecma_parser_reader.specs.State.{State, loop}
use Rattle.swc_ecma_parser_reader.proofs.Falls.{expr_falls, cover_falls, right_operand_falls}
use Rattle.swc_ecma_parser_reader.proofs.Takes.{Falls}
use Rattle.swc_ecma_parser_reader.proofs.expressions.Loops as loops

right_falls : (n : ℕ) (at : Operands) (class : Class) (s : State) → Falls 1 (length s.at.left) (right n at class s)
right_falls n operands.Nested = expr_falls n
right_falls n operands.Further = right_operand_falls n

module _ (n : ℕ) (at : Operands) (start : Span) (x : Tree) (s : State) where
  pub operated_shorter : (op : BinaryOp) (y : Tree) (t : State) → operated (right n at) (cover n) start x op s ≡ Ok (y, t) → length t.at.left < length s.at.left
  operated_shorter = loops.operated_shorter (right n at) (cover n) (right_falls n at) (cover_falls n) start x s

  module _ (least : ℕ) where
    pub binary_done : operator_at least s ≡ None → loop (binary_turn (right n at) (cover n) least start) x s ≡ Ok (x, s)
    binary_done = loops.binary_done (right n at) (cover n) (right_falls n at) (cover_falls n) start x s least

    pub binary_more : (op : BinaryOp) (y : Tree) (t : State) → operator_at least s ≡ Some op → operated (right n at) (cover n) start x op s ≡ Ok (y, t)
        → loop (binary_turn (right n at) (cover n) least start) x s ≡ loop (binary_turn (right n at) (cover n) least start) y t
    binary_more = loops.binary_more (right n at) (cover n) (right_falls n at) (cover_falls n) start x s least

    pub binary_err : (op : BinaryOp) (e : Fault × State) → operator_at least s ≡ Some op → operated (right n at) (cover n) start x op s ≡ Err e
        → loop (binary_turn (right n at) (cover n) least start) x s ≡ Err e
    binary_err = loops.binary_err (right n at) (cover n) (right_falls n at) (cover_falls n) start x s least
