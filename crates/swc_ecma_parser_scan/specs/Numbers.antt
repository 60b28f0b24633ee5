-- How a number goes on with one more character.
use Rattle.std.specs.Prelude.{ℕ, Bool, ◌==◌, ◌||◌, if◌then◌else◌, Option, Some, None}
use Rattle.swc_ecma_parser_scan.specs.declared.state.State.{State}
use Rattle.swc_ecma_parser_scan.specs.declared.state.State.TheVariants as state
use Rattle.swc_ecma_parser_scan.specs.declared.state.Number.{Number}
use Rattle.swc_ecma_parser_scan.specs.declared.state.Number.TheVariants as number
use Rattle.swc_ecma_parser_scan.specs.declared.state.Base.{Base}
use Rattle.swc_ecma_parser_scan.specs.declared.state.Base.TheVariants as base
use Rattle.swc_ecma_parser_scan.specs.Chars.{is_digit, is_name_part, is_base_digit}

unfoldable pub digit : ℕ → Number → Option Number
digit c next = if is_digit c then Some next else None

unfoldable pub digit_or_separator : ℕ → Number → Number → Option Number
digit_or_separator c next separated = if c == 95 then Some separated else digit c next

unfoldable pub digit_or_exponent : ℕ → Number → Option Number
digit_or_exponent c next = if (c == 101) || (c == 69) then Some number.Exponent else digit c next

unfoldable pub base_digit : Base → ℕ → Option Number
base_digit b c = if is_base_digit b c then Some (number.Digits b) else None

unfoldable pub behind_integer : ℕ → Option Number
behind_integer c =
    if c == 46 then Some number.Point else
    if c == 110 then Some number.BigInt else
    if (c == 101) || (c == 69) then Some number.Exponent else None

unfoldable pub step_zero : ℕ → Option Number
step_zero c =
    if (c == 120) || (c == 88) then Some (number.Prefix base.Hexadecimal) else
    if (c == 111) || (c == 79) then Some (number.Prefix base.Octal) else
    if (c == 98) || (c == 66) then Some (number.Prefix base.Binary) else behind_integer c

unfoldable pub step_integer : ℕ → Option Number
step_integer c =
    if is_digit c then Some number.Integer else
    if c == 95 then Some number.IntegerSeparator else behind_integer c

unfoldable pub step_fraction : ℕ → Option Number
step_fraction c = if c == 95 then Some number.FractionSeparator else digit_or_exponent c number.Fraction

unfoldable pub step_exponent : ℕ → Option Number
step_exponent c = if (c == 43) || (c == 45) then Some number.ExponentSign else digit c number.ExponentDigits

unfoldable pub step_digits : Base → ℕ → Option Number
step_digits b c =
    if c == 95 then Some (number.DigitsSeparator b) else
    if c == 110 then Some number.BigInt else base_digit b c

unfoldable pub known_step : Number → ℕ → Option Number
known_step number.Zero c = step_zero c
known_step number.Integer c = step_integer c
known_step number.IntegerSeparator c = digit c number.Integer
known_step number.Point c = digit_or_exponent c number.Fraction
known_step number.Fraction c = step_fraction c
known_step number.FractionSeparator c = digit c number.Fraction
known_step number.Exponent c = step_exponent c
known_step number.ExponentSign c = digit c number.ExponentDigits
known_step number.ExponentDigits c = digit_or_separator c number.ExponentDigits number.ExponentSeparator
known_step number.ExponentSeparator c = digit c number.ExponentDigits
known_step (number.Prefix b) c = base_digit b c
known_step (number.Digits b) c = step_digits b c
known_step (number.DigitsSeparator b) c = base_digit b c
known_step number.BigInt c = None
known_step number.Wrong c = None

abbrev as_number : Option Number → Bool → Option State
as_number (Some next) is_part = Some (state.Number next)
as_number None is_part = if is_part then Some (state.Number number.Wrong) else None

unfoldable pub step_number : Number → ℕ → Option State
step_number n c = as_number (known_step n c) (is_name_part c)
