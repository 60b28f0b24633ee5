-- Numbers and strings in old forms.
use Rattle.std.specs.Prelude.{ℕ, ◌+◌, ◌-◌, ◌*◌, Bool, true, false, ◌==◌, ◌&&◌, ◌||◌, nat_le, nat_lt, if◌then◌else◌, List, [], ◌∷◌, ◌++◌, Option, Some, None}
use Rattle.swc_ecma_parser_scan.specs.declared.state.State.{State}
use Rattle.swc_ecma_parser_scan.specs.declared.state.State.TheVariants as state
use Rattle.swc_ecma_parser_scan.specs.Scan.{scan}
use Rattle.swc_ecma_parser_lexer.specs.declared.escape.Escape.TheVariants as escape
use Rattle.swc_ecma_parser_lexer.specs.declared.escape.Turn.{Turn}
use Rattle.swc_ecma_parser_lexer.specs.Make.{is_number}
use Rattle.swc_ecma_parser_lexer.specs.Strings.{escaped, said, said_last}
use Rattle.swc_ecma_parser_whole_lexer.specs.declared.old.Old.{Old}
use Rattle.swc_ecma_parser_whole_lexer.specs.declared.old.Old.TheVariants as old
use Rattle.swc_ecma_parser_whole_lexer.specs.declared.old.OldTurn.{OldTurn}
use Rattle.swc_ecma_parser_whole_lexer.specs.declared.run.Class.TheVariants as class
use Rattle.swc_ecma_parser_whole_lexer.specs.Runs.{begins_with, behind, is_ahead, is_of, past}

unfoldable pub octal_value : ℕ → ℕ
octal_value c = if is_of class.Octal c then c - 48 else 0

-- Strings.

unfoldable pub says : ℕ → OldTurn
says unit = record { state = old.Plain escape.Text; unit = Some unit }

unfoldable pub as_ever : Turn → OldTurn
as_ever t = record { state = old.Plain t.state; unit = t.unit }

unfoldable pub octal : ℕ → ℕ → Bool → OldTurn
octal left value goes_on =
    if nat_lt 0 left && goes_on then record { state = old.Octal left value; unit = None } else says value

-- a value with one more octal digit; those that come have two digits at most
unfoldable pub with_octal : ℕ → ℕ → ℕ
with_octal value c = if nat_lt value 256 then value * 8 + octal_value c else value

unfoldable pub further : ℕ → ℕ
further c = if nat_le c 51 then 2 else 1

unfoldable pub behind_backslash : ℕ → ℕ → Bool → OldTurn
behind_backslash quote c goes_on =
    if is_of class.Octal c then octal (further c) (octal_value c) goes_on else
    if (c == 56) || (c == 57) then says c else as_ever (escaped quote escape.Backslash c)

-- one more character of a literal
unfoldable pub step : ℕ → Old → ℕ → Bool → OldTurn
step quote (old.Octal left value) c goes_on = octal (left - 1) (with_octal value c) goes_on
step quote (old.Plain escape.Backslash) c goes_on = behind_backslash quote c goes_on
step quote (old.Plain s) c goes_on = as_ever (escaped quote s c)

unfoldable pub is_right : Old → Bool
is_right (old.Plain escape.Wrong) = false
is_right _ = true

unfoldable pub is_old_string : ℕ → Old → List ℕ → Bool
is_old_string quote s [] = is_right s
is_old_string quote s (c ∷ cs) = is_old_string quote (step quote s c (is_ahead class.Octal cs)).state cs

-- what a literal says, in UTF-8
unfoldable pub old_value_of : ℕ → Old → Option ℕ → List ℕ → List ℕ
old_value_of quote s waiting [] = said_last waiting
old_value_of quote s waiting (c ∷ cs) =
    let t = step quote s c (is_ahead class.Octal cs) in
    let added = said waiting t.unit in
    added.bytes ++ old_value_of quote t.state added.waiting cs

-- Numbers.

-- a decimal number that is no big integer
unfoldable pub is_decimal : State → Bool
is_decimal (state.Number n) = is_number n
is_decimal _ = false

-- behind a decimal number that may have a fraction and an exponent, but no separator in its first digits
unfoldable pub past_decimal : List ℕ → Option (List ℕ)
past_decimal [] = None
past_decimal (c ∷ cs) =
    if begins_with 95 (past class.Digit (c ∷ cs)) then None else
    if is_decimal (scan false c cs).state then Some (scan false c cs).left else None

-- `0` and one more digit
unfoldable pub is_old : List ℕ → Bool
is_old cs = begins_with 48 cs && is_ahead class.Digit (behind cs)

-- octal digits end here, or a decimal number has further ones
unfoldable pub past_octals : List ℕ → List ℕ → Option (List ℕ)
past_octals octals cs =
    if is_ahead class.Digit octals then past_decimal (past class.Zero cs) else
    if is_ahead class.NamePart octals then None else Some octals

-- behind octal digits, or behind a decimal number that begins with `0`
unfoldable pub past_old_number : List ℕ → Option (List ℕ)
past_old_number cs = if is_old cs then past_octals (past class.Octal cs) cs else None
