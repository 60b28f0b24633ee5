-- How words and operators are written.
use Rattle.std.specs.Prelude.{ℕ, List, codes}
use Rattle.swc_ecma_parser_token.specs.declared.keyword.Keyword.{Keyword}
use Rattle.swc_ecma_parser_token.specs.declared.keyword.Keyword.TheVariants as keyword
use Rattle.swc_ecma_parser_token.specs.declared.operator.BinOpToken.{BinOpToken}
use Rattle.swc_ecma_parser_token.specs.declared.operator.BinOpToken.TheVariants as bin
use Rattle.swc_ecma_parser_token.specs.declared.operator.AssignOp.{AssignOp}
use Rattle.swc_ecma_parser_token.specs.declared.operator.AssignOp.TheVariants as assign
use Rattle.swc_ecma_parser_token.specs.declared.token.Word.{Word}
use Rattle.swc_ecma_parser_token.specs.declared.token.Word.TheVariants as word

abbrev pub keyword_text : Keyword → List ℕ
keyword_text keyword.Await = codes "await"
keyword_text keyword.Break = codes "break"
keyword_text keyword.Case = codes "case"
keyword_text keyword.Catch = codes "catch"
keyword_text keyword.Continue = codes "continue"
keyword_text keyword.Debugger = codes "debugger"
keyword_text keyword.Default = codes "default"
keyword_text keyword.Do = codes "do"
keyword_text keyword.Else = codes "else"
keyword_text keyword.Finally = codes "finally"
keyword_text keyword.For = codes "for"
keyword_text keyword.Function = codes "function"
keyword_text keyword.If = codes "if"
keyword_text keyword.Return = codes "return"
keyword_text keyword.Switch = codes "switch"
keyword_text keyword.Throw = codes "throw"
keyword_text keyword.Try = codes "try"
keyword_text keyword.Var = codes "var"
keyword_text keyword.Let = codes "let"
keyword_text keyword.Const = codes "const"
keyword_text keyword.While = codes "while"
keyword_text keyword.With = codes "with"
keyword_text keyword.New = codes "new"
keyword_text keyword.This = codes "this"
keyword_text keyword.Super = codes "super"
keyword_text keyword.Class = codes "class"
keyword_text keyword.Extends = codes "extends"
keyword_text keyword.Export = codes "export"
keyword_text keyword.Import = codes "import"
keyword_text keyword.Yield = codes "yield"
keyword_text keyword.In = codes "in"
keyword_text keyword.InstanceOf = codes "instanceof"
keyword_text keyword.TypeOf = codes "typeof"
keyword_text keyword.Void = codes "void"
keyword_text keyword.Delete = codes "delete"

abbrev pub bin_op_text : BinOpToken → List ℕ
bin_op_text bin.EqEq = codes "=="
bin_op_text bin.NotEq = codes "!="
bin_op_text bin.EqEqEq = codes "==="
bin_op_text bin.NotEqEq = codes "!=="
bin_op_text bin.Lt = codes "<"
bin_op_text bin.LtEq = codes "<="
bin_op_text bin.Gt = codes ">"
bin_op_text bin.GtEq = codes ">="
bin_op_text bin.LShift = codes "<<"
bin_op_text bin.RShift = codes ">>"
bin_op_text bin.ZeroFillRShift = codes ">>>"
bin_op_text bin.Add = codes "+"
bin_op_text bin.Sub = codes "-"
bin_op_text bin.Mul = codes "*"
bin_op_text bin.Div = codes "/"
bin_op_text bin.Mod = codes "%"
bin_op_text bin.BitOr = codes "|"
bin_op_text bin.BitXor = codes "^"
bin_op_text bin.BitAnd = codes "&"
bin_op_text bin.LogicalOr = codes "||"
bin_op_text bin.LogicalAnd = codes "&&"
bin_op_text bin.NullishCoalescing = codes "??"
bin_op_text bin.Exp = codes "**"

abbrev pub assign_op_text : AssignOp → List ℕ
assign_op_text assign.Assign = codes "="
assign_op_text assign.AddAssign = codes "+="
assign_op_text assign.SubAssign = codes "-="
assign_op_text assign.MulAssign = codes "*="
assign_op_text assign.DivAssign = codes "/="
assign_op_text assign.ModAssign = codes "%="
assign_op_text assign.ExpAssign = codes "**="
assign_op_text assign.LShiftAssign = codes "<<="
assign_op_text assign.RShiftAssign = codes ">>="
assign_op_text assign.ZeroFillRShiftAssign = codes ">>>="
assign_op_text assign.BitAndAssign = codes "&="
assign_op_text assign.BitOrAssign = codes "|="
assign_op_text assign.BitXorAssign = codes "^="
assign_op_text assign.AndAssign = codes "&&="
assign_op_text assign.OrAssign = codes "||="
assign_op_text assign.NullishAssign = codes "??="

abbrev pub word_text : Word → List ℕ
word_text (word.Keyword k) = keyword_text k
word_text word.Null = codes "null"
word_text word.True = codes "true"
word_text word.False = codes "false"
word_text (word.Ident text) = text
word_text (word.Escaped text) = text
