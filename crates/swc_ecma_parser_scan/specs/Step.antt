-- How a piece of the text goes on with one more character.
use Rattle.std.specs.Prelude.{ℕ, Bool, false, ◌==◌, ◌||◌, if◌then◌else◌, Option, Some, None}
use Rattle.swc_ecma_parser_token.specs.declared.operator.BinOpToken.{BinOpToken}
use Rattle.swc_ecma_parser_token.specs.declared.operator.BinOpToken.TheVariants as bin
use Rattle.swc_ecma_parser_token.specs.declared.operator.AssignOp.{AssignOp}
use Rattle.swc_ecma_parser_token.specs.declared.operator.AssignOp.TheVariants as assign
use Rattle.swc_ecma_parser_scan.specs.declared.state.State.{State}
use Rattle.swc_ecma_parser_scan.specs.declared.state.State.TheVariants as state
use Rattle.swc_ecma_parser_scan.specs.declared.state.Number.{Number}
use Rattle.swc_ecma_parser_scan.specs.declared.state.Number.TheVariants as number
use Rattle.swc_ecma_parser_scan.specs.declared.state.Mark.{Mark}
use Rattle.swc_ecma_parser_scan.specs.declared.state.Mark.TheVariants as mark
use Rattle.swc_ecma_parser_scan.specs.Chars.{is_digit, is_line_break, is_name_part, is_name_start, is_space}
use Rattle.swc_ecma_parser_scan.specs.Numbers.{step_number}

unfoldable pub first_digit : ℕ → Number
first_digit c = if c == 48 then number.Zero else number.Integer

unfoldable pub first_hash : Bool → Mark
first_hash is_first = if is_first then mark.FirstHash else mark.Hash

unfoldable pub begin_mark : ℕ → Option Mark
begin_mark c =
    if c == 64 then Some mark.At else
    if c == 46 then Some mark.Dot else
    if c == 33 then Some mark.Bang else
    if c == 40 then Some mark.LParen else
    if c == 41 then Some mark.RParen else
    if c == 91 then Some mark.LBracket else
    if c == 93 then Some mark.RBracket else
    if c == 123 then Some mark.LBrace else
    if c == 125 then Some mark.RBrace else
    if c == 59 then Some mark.Semi else
    if c == 44 then Some mark.Comma else
    if c == 58 then Some mark.Colon else
    if c == 63 then Some mark.QuestionMark else
    if c == 126 then Some mark.Tilde else None

unfoldable pub begin_operator : ℕ → State
begin_operator c =
    if c == 61 then state.AssignOp assign.Assign else
    if c == 60 then state.BinOp bin.Lt else
    if c == 62 then state.BinOp bin.Gt else
    if c == 43 then state.BinOp bin.Add else
    if c == 45 then state.BinOp bin.Sub else
    if c == 42 then state.BinOp bin.Mul else
    if c == 47 then state.BinOp bin.Div else
    if c == 37 then state.BinOp bin.Mod else
    if c == 124 then state.BinOp bin.BitOr else
    if c == 94 then state.BinOp bin.BitXor else
    if c == 38 then state.BinOp bin.BitAnd else state.Unexpected

abbrev mark_or : Option Mark → State → State
mark_or (Some m) s = state.Mark m
mark_or None s = s

-- what the first character of a piece begins
unfoldable pub begin : Bool → ℕ → State
begin is_first c =
    if is_name_start c then state.Name else
    if is_space c then state.Space else
    if is_line_break c then state.LineBreak else
    if is_digit c then state.Number (first_digit c) else
    if (c == 39) || (c == 34) then state.Str c else
    if c == 35 then state.Mark (first_hash is_first) else mark_or (begin_mark c) (begin_operator c)

unfoldable pub only : Bool → State → Option State
only goes_on s = if goes_on then Some s else None

unfoldable pub step_line : State → ℕ → Option State
step_line s c = if is_line_break c then None else Some s

unfoldable pub step_name : ℕ → Option State
step_name c = if is_name_part c then Some state.Name else None

unfoldable pub step_block : Bool → ℕ → State
step_block breaks c = if c == 42 then state.BlockCommentStar breaks else state.BlockComment (breaks || is_line_break c)

unfoldable pub step_block_star : Bool → ℕ → State
step_block_star breaks c = if c == 47 then state.BlockCommentEnd breaks else step_block breaks c

unfoldable pub step_str : ℕ → ℕ → Option State
step_str quote c =
    if c == quote then Some (state.StrEnd quote) else
    if c == 92 then Some (state.StrEscape quote) else
    if (c == 10) || (c == 13) then None else Some (state.Str quote)

unfoldable pub step_str_escape : ℕ → ℕ → State
step_str_escape quote c = if c == 13 then state.StrReturn quote else state.Str quote

unfoldable pub step_str_return : ℕ → ℕ → Option State
step_str_return quote c = if c == 10 then Some (state.Str quote) else step_str quote c

unfoldable pub step_dot : ℕ → Option State
step_dot c = if is_digit c then Some (state.Number number.Fraction) else only (c == 46) (state.Mark mark.DotDot)

unfoldable pub step_mark : Mark → ℕ → Option State
step_mark mark.FirstHash c = only (c == 33) state.Shebang
step_mark mark.Dot c = step_dot c
step_mark mark.DotDot c = only (c == 46) (state.Mark mark.DotDotDot)
step_mark mark.Bang c = only (c == 61) (state.BinOp bin.NotEq)
step_mark mark.QuestionMark c = only (c == 63) (state.BinOp bin.NullishCoalescing)
step_mark _ c = None

unfoldable pub step_assign_op : AssignOp → ℕ → Option State
step_assign_op assign.Assign c = if c == 62 then Some (state.Mark mark.Arrow) else only (c == 61) (state.BinOp bin.EqEq)
step_assign_op _ c = None

unfoldable pub with_equals : BinOpToken → Option State
with_equals bin.EqEq = Some (state.BinOp bin.EqEqEq)
with_equals bin.NotEq = Some (state.BinOp bin.NotEqEq)
with_equals bin.Lt = Some (state.BinOp bin.LtEq)
with_equals bin.Gt = Some (state.BinOp bin.GtEq)
with_equals bin.LShift = Some (state.AssignOp assign.LShiftAssign)
with_equals bin.RShift = Some (state.AssignOp assign.RShiftAssign)
with_equals bin.ZeroFillRShift = Some (state.AssignOp assign.ZeroFillRShiftAssign)
with_equals bin.Add = Some (state.AssignOp assign.AddAssign)
with_equals bin.Sub = Some (state.AssignOp assign.SubAssign)
with_equals bin.Mul = Some (state.AssignOp assign.MulAssign)
with_equals bin.Div = Some (state.AssignOp assign.DivAssign)
with_equals bin.Mod = Some (state.AssignOp assign.ModAssign)
with_equals bin.Exp = Some (state.AssignOp assign.ExpAssign)
with_equals bin.BitOr = Some (state.AssignOp assign.BitOrAssign)
with_equals bin.BitXor = Some (state.AssignOp assign.BitXorAssign)
with_equals bin.BitAnd = Some (state.AssignOp assign.BitAndAssign)
with_equals bin.LogicalOr = Some (state.AssignOp assign.OrAssign)
with_equals bin.LogicalAnd = Some (state.AssignOp assign.AndAssign)
with_equals bin.NullishCoalescing = Some (state.AssignOp assign.NullishAssign)
with_equals _ = None

unfoldable pub doubled : BinOpToken → ℕ → Option State
doubled bin.Lt c = only (c == 60) (state.BinOp bin.LShift)
doubled bin.Gt c = only (c == 62) (state.BinOp bin.RShift)
doubled bin.RShift c = only (c == 62) (state.BinOp bin.ZeroFillRShift)
doubled bin.Add c = only (c == 43) (state.Mark mark.PlusPlus)
doubled bin.Sub c = only (c == 45) (state.Mark mark.MinusMinus)
doubled bin.Mul c = only (c == 42) (state.BinOp bin.Exp)
doubled bin.BitOr c = only (c == 124) (state.BinOp bin.LogicalOr)
doubled bin.BitAnd c = only (c == 38) (state.BinOp bin.LogicalAnd)
doubled bin.Div c = if c == 47 then Some state.LineComment else only (c == 42) (state.BlockComment false)
doubled _ c = None

unfoldable pub step_bin_op : BinOpToken → ℕ → Option State
step_bin_op op c = if c == 61 then with_equals op else doubled op c

-- what a piece is with one more character, or nothing where the character does not belong to it
unfoldable pub step : State → ℕ → Option State
step state.Space c = None
step state.LineBreak c = None
step state.LineComment c = step_line state.LineComment c
step (state.BlockComment breaks) c = Some (step_block breaks c)
step (state.BlockCommentStar breaks) c = Some (step_block_star breaks c)
step (state.BlockCommentEnd breaks) c = None
step state.Shebang c = step_line state.Shebang c
step state.Name c = step_name c
step (state.Number n) c = step_number n c
step (state.Str quote) c = step_str quote c
step (state.StrEscape quote) c = Some (step_str_escape quote c)
step (state.StrReturn quote) c = step_str_return quote c
step (state.StrEnd quote) c = None
step (state.Mark m) c = step_mark m c
step (state.BinOp op) c = step_bin_op op c
step (state.AssignOp op) c = step_assign_op op c
step state.Unexpected c = None
