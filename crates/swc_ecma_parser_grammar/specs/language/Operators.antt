-- The operators: which token writes which, and how tightly those between two operands bind.
use Rattle.std.specs.Prelude.{ℕ, Bool, true, false, ◌&&◌, ◌||◌, Option, Some, None}
use Rattle.swc_ecma_parser_token.specs.declared.kind.TokenKind.{TokenKind}
use Rattle.swc_ecma_parser_token.specs.declared.kind.TokenKind.TheVariants as kind
use Rattle.swc_ecma_parser_model.specs.declared.operators.UnaryOp.{UnaryOp}
use Rattle.swc_ecma_parser_model.specs.declared.operators.UnaryOp.TheVariants as unary
use Rattle.swc_ecma_parser_model.specs.declared.operators.UpdateOp.{UpdateOp}
use Rattle.swc_ecma_parser_model.specs.declared.operators.UpdateOp.TheVariants as update
use Rattle.swc_ecma_parser_model.specs.declared.operators.BinaryOp.{BinaryOp}
use Rattle.swc_ecma_parser_model.specs.declared.operators.BinaryOp.TheVariants as binary
use Rattle.swc_ecma_parser_model.specs.declared.operators.AssignOp.{AssignOp}
use Rattle.swc_ecma_parser_model.specs.declared.operators.AssignOp.TheVariants as assign
use Rattle.swc_ecma_parser_model.specs.Tree.{Tree}
use Rattle.swc_ecma_parser_model.specs.Within as within
use Rattle.swc_ecma_parser_grammar.specs.Names.{Code}

-- before an operand: section 13.5
abbrev pub unary_operator : TokenKind → Option UnaryOp
unary_operator kind.Delete = Some unary.Delete
unary_operator kind.Void = Some unary.Void
unary_operator kind.TypeOf = Some unary.TypeOf
unary_operator kind.Add = Some unary.Plus
unary_operator kind.Sub = Some unary.Minus
unary_operator kind.Tilde = Some unary.Tilde
unary_operator kind.Bang = Some unary.Bang
unary_operator _ = None

-- before or behind one: section 13.4
abbrev pub update_operator : TokenKind → Option UpdateOp
update_operator kind.PlusPlus = Some update.PlusPlus
update_operator kind.MinusMinus = Some update.MinusMinus
update_operator _ = None

-- between two: sections 13.6 to 13.13
abbrev pub binary_operator : TokenKind → Option BinaryOp
binary_operator kind.EqEq = Some binary.EqEq
binary_operator kind.NotEq = Some binary.NotEq
binary_operator kind.EqEqEq = Some binary.EqEqEq
binary_operator kind.NotEqEq = Some binary.NotEqEq
binary_operator kind.Lt = Some binary.Lt
binary_operator kind.LtEq = Some binary.LtEq
binary_operator kind.Gt = Some binary.Gt
binary_operator kind.GtEq = Some binary.GtEq
binary_operator kind.LShift = Some binary.LShift
binary_operator kind.RShift = Some binary.RShift
binary_operator kind.ZeroFillRShift = Some binary.ZeroFillRShift
binary_operator kind.Add = Some binary.Add
binary_operator kind.Sub = Some binary.Sub
binary_operator kind.Mul = Some binary.Mul
binary_operator kind.Div = Some binary.Div
binary_operator kind.Mod = Some binary.Mod
binary_operator kind.BitOr = Some binary.BitOr
binary_operator kind.BitXor = Some binary.BitXor
binary_operator kind.BitAnd = Some binary.BitAnd
binary_operator kind.LogicalOr = Some binary.LogicalOr
binary_operator kind.LogicalAnd = Some binary.LogicalAnd
binary_operator kind.In = Some binary.In
binary_operator kind.InstanceOf = Some binary.InstanceOf
binary_operator kind.Exp = Some binary.Exp
binary_operator kind.NullishCoalescing = Some binary.NullishCoalescing
binary_operator _ = None

-- of an assignment: section 13.15
abbrev pub assign_operator : TokenKind → Option AssignOp
assign_operator kind.Assign = Some assign.Assign
assign_operator kind.AddAssign = Some assign.AddAssign
assign_operator kind.SubAssign = Some assign.SubAssign
assign_operator kind.MulAssign = Some assign.MulAssign
assign_operator kind.DivAssign = Some assign.DivAssign
assign_operator kind.ModAssign = Some assign.ModAssign
assign_operator kind.ExpAssign = Some assign.ExpAssign
assign_operator kind.LShiftAssign = Some assign.LShiftAssign
assign_operator kind.RShiftAssign = Some assign.RShiftAssign
assign_operator kind.ZeroFillRShiftAssign = Some assign.ZeroFillRShiftAssign
assign_operator kind.BitAndAssign = Some assign.BitAndAssign
assign_operator kind.BitOrAssign = Some assign.BitOrAssign
assign_operator kind.BitXorAssign = Some assign.BitXorAssign
assign_operator kind.AndAssign = Some assign.AndAssign
assign_operator kind.OrAssign = Some assign.OrAssign
assign_operator kind.NullishAssign = Some assign.NullishAssign
assign_operator _ = None

-- how tightly an operator binds its operands, loosest first
abbrev pub precedence : BinaryOp → ℕ
precedence binary.NullishCoalescing = 1
precedence binary.LogicalOr = 1
precedence binary.LogicalAnd = 2
precedence binary.BitOr = 3
precedence binary.BitXor = 4
precedence binary.BitAnd = 5
precedence binary.EqEq = 6
precedence binary.NotEq = 6
precedence binary.EqEqEq = 6
precedence binary.NotEqEq = 6
precedence binary.Lt = 7
precedence binary.LtEq = 7
precedence binary.Gt = 7
precedence binary.GtEq = 7
precedence binary.In = 7
precedence binary.InstanceOf = 7
precedence binary.LShift = 8
precedence binary.RShift = 8
precedence binary.ZeroFillRShift = 8
precedence binary.Add = 9
precedence binary.Sub = 9
precedence binary.Mul = 10
precedence binary.Div = 10
precedence binary.Mod = 10
precedence binary.Exp = 11

-- `**` groups to the right, and each other operator to the left
abbrev pub groups_left : BinaryOp → Bool
groups_left binary.Exp = false
groups_left _ = true

-- `in` is an operator only where it is read: `[In]`
abbrev pub is_operator : Code → BinaryOp → Bool
is_operator k binary.In = k.flags.include_in_expr
is_operator k _ = true

-- `??` does not stand beside `||` or `&&` without parentheses: section 13.13
abbrev pub is_logical : BinaryOp → Bool
is_logical binary.LogicalOr = true
is_logical binary.LogicalAnd = true
is_logical _ = false

abbrev pub is_nullish : BinaryOp → Bool
is_nullish binary.NullishCoalescing = true
is_nullish _ = false

-- `??` beside `||` or `&&`
abbrev pub mixed : BinaryOp → Option BinaryOp → Bool
mixed op (Some inner) = (is_nullish op && is_logical inner) || (is_logical op && is_nullish inner)
mixed op None = false

abbrev pub mixes : BinaryOp → Tree → Bool
mixes op x = mixed op (within.binary_operator x)

-- what `**` does not take as its left operand without parentheses: section 13.6
abbrev pub is_unary : Tree → Bool
is_unary x = within.is_unary_expr x || within.is_await_expr x
