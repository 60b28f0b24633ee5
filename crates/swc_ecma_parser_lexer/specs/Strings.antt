-- What a string literal says.
use Rattle.std.specs.Prelude.{ℕ, ◌+◌, ◌-◌, ◌*◌, Bool, true, false, ◌==◌, ◌&&◌, ◌||◌, nat_le, nat_lt, if◌then◌else◌, List, [], ◌∷◌, ◌++◌, Option, Some, None}
use Rattle.std.specs.Char.{encode_utf8}
use Rattle.swc_ecma_parser_lexer.specs.declared.escape.Escape.{Escape}
use Rattle.swc_ecma_parser_lexer.specs.declared.escape.Escape.TheVariants as escape
use Rattle.swc_ecma_parser_lexer.specs.declared.escape.Turn.{Turn}
use Rattle.swc_ecma_parser_scan.specs.Chars.{hex_digit, is_between, is_digit, is_line_break}

unfoldable pub silent : Escape → Turn
silent s = record { state = s; unit = None }

unfoldable pub says : ℕ → Turn
says unit = record { state = escape.Text; unit = Some unit }

unfoldable pub in_text : ℕ → ℕ → Turn
in_text quote c =
    if c == quote then silent escape.Text else
    if c == 92 then silent escape.Backslash else says c

unfoldable pub single : ℕ → ℕ
single c =
    if c == 98 then 8 else
    if c == 116 then 9 else
    if c == 110 then 10 else
    if c == 118 then 11 else
    if c == 102 then 12 else
    if c == 114 then 13 else c

unfoldable pub behind_backslash : ℕ → Turn
behind_backslash c =
    if c == 48 then record { state = escape.Zero; unit = Some 0 } else
    if is_digit c then silent escape.Wrong else
    if c == 120 then silent (escape.Hex 2 0) else
    if c == 117 then silent escape.Unicode else
    if c == 13 then silent escape.Return else
    if is_line_break c then silent escape.Text else says (single c)

unfoldable pub with_digit : ℕ → ℕ → Option ℕ
with_digit value digit =
    if nat_lt 0x10ffff value || nat_lt 15 digit then None else
    if nat_lt 0x10ffff (value * 16 + digit) then None else Some (value * 16 + digit)

abbrev digit_behind : ℕ → Option ℕ → Option ℕ
digit_behind value (Some digit) = with_digit value digit
digit_behind value None = None

unfoldable pub hex_value : ℕ → ℕ → Option ℕ
hex_value value c = digit_behind value (hex_digit c)

abbrev hex_to : ℕ → Option ℕ → Turn
hex_to left (Some longer) = if nat_lt 1 left then silent (escape.Hex (left - 1) longer) else says longer
hex_to left None = silent escape.Wrong

unfoldable pub in_hex : ℕ → ℕ → ℕ → Turn
in_hex left value c = hex_to left (hex_value value c)

abbrev braces_to : Option ℕ → Turn
braces_to (Some longer) = silent (escape.Braces longer)
braces_to None = silent escape.Wrong

unfoldable pub in_braces : ℕ → ℕ → Turn
in_braces value c = braces_to (hex_value value c)

-- one more character of a literal
unfoldable pub escaped : ℕ → Escape → ℕ → Turn
escaped quote escape.Text c = in_text quote c
escaped quote escape.Backslash c = behind_backslash c
escaped quote escape.Return c = if c == 10 then silent escape.Text else in_text quote c
escaped quote escape.Zero c = if is_digit c then silent escape.Wrong else in_text quote c
escaped quote (escape.Hex left value) c = in_hex left value c
escaped quote escape.Unicode c = if c == 123 then silent escape.Brace else in_hex 4 0 c
escaped quote escape.Brace c = in_braces 0 c
escaped quote (escape.Braces value) c = if c == 125 then says value else in_braces value c
escaped quote escape.Wrong c = silent escape.Wrong

unfoldable pub is_right : Escape → Bool
is_right escape.Wrong = false
is_right _ = true

-- no escape is written wrong
unfoldable pub is_well_escaped : ℕ → Escape → List ℕ → Bool
is_well_escaped quote s [] = is_right s
is_well_escaped quote s (c ∷ cs) = is_well_escaped quote (escaped quote s c).state cs

unfoldable pub is_high : ℕ → Bool
is_high unit = is_between 0xd800 0xdbff unit

-- U+FFFD stands for what is no character
unfoldable pub lossy : ℕ → ℕ
lossy unit = if nat_lt unit 0xd800 || is_between 0xe000 0x10ffff unit then unit else 0xfffd

unfoldable pub is_pair : ℕ → ℕ → Bool
is_pair high low = nat_le 0xd800 high && nat_le high 0xdbff && nat_le 0xdc00 low && nat_le low 0xdfff

unfoldable pub paired : ℕ → ℕ → Option ℕ
paired high low = if is_pair high low then Some (lossy ((high - 0xd800) * 0x400 + (low - 0xdc00) + 0x10000)) else None

-- the bytes that a unit adds, and a first half of a pair that waits for the second
pub record Said : Type 0 where
  pub bytes : List ℕ
  pub waiting : Option ℕ

unfoldable pub said_alone : ℕ → Said
said_alone unit =
    if is_high unit then record { bytes = []; waiting = Some unit }
    else record { bytes = encode_utf8 (lossy unit); waiting = None }

abbrev pair_or_alone : Option ℕ → ℕ → Said
pair_or_alone (Some c) unit = record { bytes = encode_utf8 c; waiting = None }
pair_or_alone None unit = record { bytes = encode_utf8 0xfffd ++ (said_alone unit).bytes; waiting = (said_alone unit).waiting }

unfoldable pub said_behind : ℕ → ℕ → Said
said_behind high unit = pair_or_alone (paired high unit) unit

unfoldable pub said : Option ℕ → Option ℕ → Said
said waiting None = record { bytes = []; waiting = waiting }
said None (Some unit) = said_alone unit
said (Some high) (Some unit) = said_behind high unit

unfoldable pub said_last : Option ℕ → List ℕ
said_last None = []
said_last (Some high) = encode_utf8 0xfffd

-- what a literal says, in UTF-8
unfoldable pub value_of : ℕ → Escape → Option ℕ → List ℕ → List ℕ
value_of quote s waiting [] = said_last waiting
value_of quote s waiting (c ∷ cs) =
    let e = escaped quote s c in
    let added = said waiting e.unit in
    added.bytes ++ value_of quote e.state added.waiting cs
