-- The words of ESTree: what an operator, a declaration or a method is called.
use Rattle.std.specs.Prelude.{ℕ, List, Bool, true, false, codes}
use Rattle.swc_ecma_parser_model.specs.declared.leaves.VarDeclKind.{VarDeclKind}
use Rattle.swc_ecma_parser_model.specs.declared.leaves.VarDeclKind.TheVariants as var_kind
use Rattle.swc_ecma_parser_model.specs.declared.leaves.MethodKind.{MethodKind}
use Rattle.swc_ecma_parser_model.specs.declared.leaves.MethodKind.TheVariants as method
use Rattle.swc_ecma_parser_model.specs.declared.operators.UnaryOp.{UnaryOp}
use Rattle.swc_ecma_parser_model.specs.declared.operators.UnaryOp.TheVariants as unary
use Rattle.swc_ecma_parser_model.specs.declared.operators.UpdateOp.{UpdateOp}
use Rattle.swc_ecma_parser_model.specs.declared.operators.UpdateOp.TheVariants as update
use Rattle.swc_ecma_parser_model.specs.declared.operators.BinaryOp.{BinaryOp}
use Rattle.swc_ecma_parser_model.specs.declared.operators.BinaryOp.TheVariants as binary
use Rattle.swc_ecma_parser_model.specs.declared.operators.AssignOp.{AssignOp}
use Rattle.swc_ecma_parser_model.specs.declared.operators.AssignOp.TheVariants as assign

unfoldable pub bool_word : Bool → List ℕ
bool_word true = codes "true"
bool_word false = codes "false"

unfoldable pub kind_word : VarDeclKind → List ℕ
kind_word var_kind.Var = codes "var"
kind_word var_kind.Let = codes "let"
kind_word var_kind.Const = codes "const"

unfoldable pub using_word : (is_await : Bool) → List ℕ
using_word true = codes "await using"
using_word false = codes "using"

unfoldable pub method_word : MethodKind → List ℕ
method_word method.Method = codes "method"
method_word method.Getter = codes "get"
method_word method.Setter = codes "set"

unfoldable pub unary_word : UnaryOp → List ℕ
unary_word unary.Minus = codes "-"
unary_word unary.Plus = codes "+"
unary_word unary.Bang = codes "!"
unary_word unary.Tilde = codes "~"
unary_word unary.TypeOf = codes "typeof"
unary_word unary.Void = codes "void"
unary_word unary.Delete = codes "delete"

unfoldable pub update_word : UpdateOp → List ℕ
update_word update.PlusPlus = codes "++"
update_word update.MinusMinus = codes "--"

unfoldable pub binary_word : BinaryOp → List ℕ
binary_word binary.EqEq = codes "=="
binary_word binary.NotEq = codes "!="
binary_word binary.EqEqEq = codes "==="
binary_word binary.NotEqEq = codes "!=="
binary_word binary.Lt = codes "<"
binary_word binary.LtEq = codes "<="
binary_word binary.Gt = codes ">"
binary_word binary.GtEq = codes ">="
binary_word binary.LShift = codes "<<"
binary_word binary.RShift = codes ">>"
binary_word binary.ZeroFillRShift = codes ">>>"
binary_word binary.Add = codes "+"
binary_word binary.Sub = codes "-"
binary_word binary.Mul = codes "*"
binary_word binary.Div = codes "/"
binary_word binary.Mod = codes "%"
binary_word binary.BitOr = codes "|"
binary_word binary.BitXor = codes "^"
binary_word binary.BitAnd = codes "&"
binary_word binary.LogicalOr = codes "||"
binary_word binary.LogicalAnd = codes "&&"
binary_word binary.In = codes "in"
binary_word binary.InstanceOf = codes "instanceof"
binary_word binary.Exp = codes "**"
binary_word binary.NullishCoalescing = codes "??"

-- the node of an operator between two operands
unfoldable pub binary_kind : BinaryOp → List ℕ
binary_kind binary.LogicalOr = codes "LogicalExpression"
binary_kind binary.LogicalAnd = codes "LogicalExpression"
binary_kind binary.NullishCoalescing = codes "LogicalExpression"
binary_kind _ = codes "BinaryExpression"

unfoldable pub assign_word : AssignOp → List ℕ
assign_word assign.Assign = codes "="
assign_word assign.AddAssign = codes "+="
assign_word assign.SubAssign = codes "-="
assign_word assign.MulAssign = codes "*="
assign_word assign.DivAssign = codes "/="
assign_word assign.ModAssign = codes "%="
assign_word assign.LShiftAssign = codes "<<="
assign_word assign.RShiftAssign = codes ">>="
assign_word assign.ZeroFillRShiftAssign = codes ">>>="
assign_word assign.BitOrAssign = codes "|="
assign_word assign.BitXorAssign = codes "^="
assign_word assign.BitAndAssign = codes "&="
assign_word assign.ExpAssign = codes "**="
assign_word assign.AndAssign = codes "&&="
assign_word assign.OrAssign = codes "||="
assign_word assign.NullishAssign = codes "??="
