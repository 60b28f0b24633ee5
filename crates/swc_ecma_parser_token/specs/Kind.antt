-- The kind of a token.
use Rattle.swc_ecma_parser_token.specs.declared.keyword.Keyword.{Keyword}
use Rattle.swc_ecma_parser_token.specs.declared.keyword.Keyword.TheVariants as keyword
use Rattle.swc_ecma_parser_token.specs.declared.operator.BinOpToken.{BinOpToken}
use Rattle.swc_ecma_parser_token.specs.declared.operator.BinOpToken.TheVariants as bin
use Rattle.swc_ecma_parser_token.specs.declared.operator.AssignOp.{AssignOp}
use Rattle.swc_ecma_parser_token.specs.declared.operator.AssignOp.TheVariants as assign
use Rattle.swc_ecma_parser_token.specs.declared.token.Word.{Word}
use Rattle.swc_ecma_parser_token.specs.declared.token.Word.TheVariants as word
use Rattle.swc_ecma_parser_token.specs.declared.token.Token.{Token}
use Rattle.swc_ecma_parser_token.specs.declared.token.Token.TheVariants as token
use Rattle.swc_ecma_parser_token.specs.declared.kind.TokenKind.{TokenKind}
use Rattle.swc_ecma_parser_token.specs.declared.kind.TokenKind.TheVariants as kind

abbrev pub keyword_kind : Keyword → TokenKind
keyword_kind keyword.Await = kind.Await
keyword_kind keyword.Break = kind.Break
keyword_kind keyword.Case = kind.Case
keyword_kind keyword.Catch = kind.Catch
keyword_kind keyword.Continue = kind.Continue
keyword_kind keyword.Debugger = kind.Debugger
keyword_kind keyword.Default = kind.Default
keyword_kind keyword.Do = kind.Do
keyword_kind keyword.Else = kind.Else
keyword_kind keyword.Finally = kind.Finally
keyword_kind keyword.For = kind.For
keyword_kind keyword.Function = kind.Function
keyword_kind keyword.If = kind.If
keyword_kind keyword.Return = kind.Return
keyword_kind keyword.Switch = kind.Switch
keyword_kind keyword.Throw = kind.Throw
keyword_kind keyword.Try = kind.Try
keyword_kind keyword.Var = kind.Var
keyword_kind keyword.Let = kind.Let
keyword_kind keyword.Const = kind.Const
keyword_kind keyword.While = kind.While
keyword_kind keyword.With = kind.With
keyword_kind keyword.New = kind.New
keyword_kind keyword.This = kind.This
keyword_kind keyword.Super = kind.Super
keyword_kind keyword.Class = kind.Class
keyword_kind keyword.Extends = kind.Extends
keyword_kind keyword.Export = kind.Export
keyword_kind keyword.Import = kind.Import
keyword_kind keyword.Yield = kind.Yield
keyword_kind keyword.In = kind.In
keyword_kind keyword.InstanceOf = kind.InstanceOf
keyword_kind keyword.TypeOf = kind.TypeOf
keyword_kind keyword.Void = kind.Void
keyword_kind keyword.Delete = kind.Delete

abbrev pub bin_op_kind : BinOpToken → TokenKind
bin_op_kind bin.EqEq = kind.EqEq
bin_op_kind bin.NotEq = kind.NotEq
bin_op_kind bin.EqEqEq = kind.EqEqEq
bin_op_kind bin.NotEqEq = kind.NotEqEq
bin_op_kind bin.Lt = kind.Lt
bin_op_kind bin.LtEq = kind.LtEq
bin_op_kind bin.Gt = kind.Gt
bin_op_kind bin.GtEq = kind.GtEq
bin_op_kind bin.LShift = kind.LShift
bin_op_kind bin.RShift = kind.RShift
bin_op_kind bin.ZeroFillRShift = kind.ZeroFillRShift
bin_op_kind bin.Add = kind.Add
bin_op_kind bin.Sub = kind.Sub
bin_op_kind bin.Mul = kind.Mul
bin_op_kind bin.Div = kind.Div
bin_op_kind bin.Mod = kind.Mod
bin_op_kind bin.BitOr = kind.BitOr
bin_op_kind bin.BitXor = kind.BitXor
bin_op_kind bin.BitAnd = kind.BitAnd
bin_op_kind bin.LogicalOr = kind.LogicalOr
bin_op_kind bin.LogicalAnd = kind.LogicalAnd
bin_op_kind bin.NullishCoalescing = kind.NullishCoalescing
bin_op_kind bin.Exp = kind.Exp

abbrev pub assign_op_kind : AssignOp → TokenKind
assign_op_kind assign.Assign = kind.Assign
assign_op_kind assign.AddAssign = kind.AddAssign
assign_op_kind assign.SubAssign = kind.SubAssign
assign_op_kind assign.MulAssign = kind.MulAssign
assign_op_kind assign.DivAssign = kind.DivAssign
assign_op_kind assign.ModAssign = kind.ModAssign
assign_op_kind assign.ExpAssign = kind.ExpAssign
assign_op_kind assign.LShiftAssign = kind.LShiftAssign
assign_op_kind assign.RShiftAssign = kind.RShiftAssign
assign_op_kind assign.ZeroFillRShiftAssign = kind.ZeroFillRShiftAssign
assign_op_kind assign.BitAndAssign = kind.BitAndAssign
assign_op_kind assign.BitOrAssign = kind.BitOrAssign
assign_op_kind assign.BitXorAssign = kind.BitXorAssign
assign_op_kind assign.AndAssign = kind.AndAssign
assign_op_kind assign.OrAssign = kind.OrAssign
assign_op_kind assign.NullishAssign = kind.NullishAssign

abbrev pub word_kind : Word → TokenKind
word_kind (word.Keyword k) = keyword_kind k
word_kind word.Null = kind.Null
word_kind word.True = kind.True
word_kind word.False = kind.False
word_kind (word.Ident text) = kind.Ident
word_kind (word.Escaped text) = kind.Escaped

abbrev pub token_kind : Token → TokenKind
token_kind (token.Word w) = word_kind w
token_kind (token.BinOp o) = bin_op_kind o
token_kind (token.AssignOp o) = assign_op_kind o
token_kind token.Arrow = kind.Arrow
token_kind token.Hash = kind.Hash
token_kind token.At = kind.At
token_kind token.Dot = kind.Dot
token_kind token.DotDotDot = kind.DotDotDot
token_kind token.Bang = kind.Bang
token_kind token.LParen = kind.LParen
token_kind token.RParen = kind.RParen
token_kind token.LBracket = kind.LBracket
token_kind token.RBracket = kind.RBracket
token_kind token.LBrace = kind.LBrace
token_kind token.RBrace = kind.RBrace
token_kind token.Semi = kind.Semi
token_kind token.Comma = kind.Comma
token_kind token.Colon = kind.Colon
token_kind token.QuestionMark = kind.QuestionMark
token_kind token.QuestionDot = kind.QuestionDot
token_kind token.NewDot = kind.NewDot
token_kind token.HashIn = kind.HashIn
token_kind token.PlusPlus = kind.PlusPlus
token_kind token.MinusMinus = kind.MinusMinus
token_kind token.Tilde = kind.Tilde
token_kind (token.Str value raw) = kind.Str
token_kind (token.Num raw) = kind.Num
token_kind (token.BigInt raw) = kind.BigInt
token_kind (token.Shebang text) = kind.Shebang
token_kind (token.Regex exp flags) = kind.Regex
token_kind (token.Template raw cooked) = kind.Template
token_kind (token.TemplateHead raw cooked) = kind.TemplateHead
token_kind (token.TemplateMiddle raw cooked) = kind.TemplateMiddle
token_kind (token.TemplateTail raw cooked) = kind.TemplateTail
token_kind (token.Error e) = kind.Error
