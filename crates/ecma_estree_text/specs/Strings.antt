-- The value of a string literal: ECMA-262, "Static Semantics: SV" (section 12.9.4.2). A tree holds it as UTF-8, with U+FFFD in the place of a
-- surrogate without its half. So where it holds U+FFFD the value is read from what was written.
use Rattle.std.specs.Prelude.{ℕ, List, [], ◌∷◌, ◌++◌, ◌+◌, ◌-◌, ◌*◌, ◌/◌, ◌%◌, Bool, true, false, ◌==◌, ◌&&◌, ◌||◌, nat_lt, ◌≤◌, ◌<◌, if◌then◌else◌, Option, Some, None, codes, chars, encode_utf8}
use Rattle.std.specs.Char.Escape.{encode_utf16}
use Rattle.std.specs.List.{flat_map}
use Rattle.ecma_estree_text.specs.Number.{digit_value, is_between}
use Rattle.ecma_estree_text.specs.Quoted.{escaped, hex_digit, wrapped}
use Rattle.ecma_estree_text.specs.declared.strings.Escape.{Escape}
use Rattle.ecma_estree_text.specs.declared.strings.Escape.TheVariants as escape

-- What a literal says is a list of code points. A surrogate is one too, and stands alone where it is written by an escape of its own.

unfoldable pub is_line_break : ℕ → Bool
is_line_break c = (c == 10) || (c == 13) || (c == 0x2028) || (c == 0x2029)

-- what a backslash and one character stand for: 48 is `0`, and behind it are `b`, `t`, `n`, `v`, `f`, `r`
unfoldable pub single : ℕ → ℕ
single c =
    if c == 48 then 0 else
    if c == 98 then 8 else
    if c == 116 then 9 else
    if c == 110 then 10 else
    if c == 118 then 11 else
    if c == 102 then 12 else
    if c == 114 then 13 else c

-- a number with one more hexadecimal digit, up to the greatest code point
abbrev pub bounded : ℕ → ℕ
bounded n = if nat_lt 0x10ffff n then 0x10ffff else n

unfoldable pub longer : (value : ℕ) → ℕ → ℕ
longer value c = bounded (value * 16 + digit_value c)

-- where a literal is behind a backslash and one character: 120 is `x`, 117 `u`
unfoldable pub behind_backslash : ℕ → Escape
behind_backslash c =
    if c == 120 then escape.Hex 2 0 else
    if c == 117 then escape.Unicode else
    if c == 13 then escape.Return else escape.Text

-- where it is behind one more character: 92 is a backslash, 123 and 125 are braces
unfoldable pub escape_behind : Escape → ℕ → Escape
escape_behind escape.Text c = if c == 92 then escape.Backslash else escape.Text
escape_behind escape.Return c = if c == 92 then escape.Backslash else escape.Text
escape_behind escape.Backslash c = behind_backslash c
escape_behind (escape.Hex left value) c = if nat_lt 1 left then escape.Hex (left - 1) (longer value c) else escape.Text
escape_behind escape.Unicode c = if c == 123 then escape.Braces 0 else escape.Hex 3 (longer 0 c)
escape_behind (escape.Braces value) c = if c == 125 then escape.Text else escape.Braces (longer value c)

unfoldable pub said_in_text : (quote : ℕ) → ℕ → Option ℕ
said_in_text quote c = if (c == quote) || (c == 92) then None else Some c

unfoldable pub said_behind_backslash : ℕ → Option ℕ
said_behind_backslash c = if (c == 120) || (c == 117) || is_line_break c then None else Some (single c)

-- the code point that is complete with one more character
unfoldable pub said : (quote : ℕ) → Escape → ℕ → Option ℕ
said quote escape.Text c = said_in_text quote c
said quote escape.Return c = if c == 10 then None else said_in_text quote c
said quote escape.Backslash c = said_behind_backslash c
said quote (escape.Hex left value) c = if nat_lt 1 left then None else Some (longer value c)
said quote escape.Unicode c = None
said quote (escape.Braces value) c = if c == 125 then Some value else None

-- with what else is said
abbrev pub also_said : Option ℕ → List ℕ → List ℕ
also_said None rest = rest
also_said (Some c) rest = c ∷ rest

-- the code points of characters, from within an escape on
abbrev pub points_behind : (quote : ℕ) → Escape → List ℕ → List ℕ
points_behind quote s [] = []
points_behind quote s (c ∷ cs) = also_said (said quote s c) (points_behind quote (escape_behind s c) cs)

-- the byte that a literal begins with: 34 or 39, a quote
abbrev pub first_byte : List ℕ → ℕ
first_byte [] = 0
first_byte (b ∷ bs) = b

-- what a literal says, which is given as it is written
abbrev pub points : List ℕ → List ℕ
points raw = points_behind (first_byte raw) escape.Text (chars raw)

-- ---- as JSON

-- the two halves of a pair, and the character that they make: section 6.1.4
unfoldable pub is_high : ℕ → Bool
is_high c = is_between 0xd800 0xdbff c

unfoldable pub is_low : ℕ → Bool
is_low c = is_between 0xdc00 0xdfff c

abbrev pub IsHigh : ℕ → Type 0
IsHigh c = (0xd800 ≤ c) × (c < 0xdc00)

abbrev pub paired : (high low : ℕ) → ℕ
paired high low = (high - 0xd800) * 0x400 + (low - 0xdc00) + 0x10000

-- an escape of four digits
abbrev pub four_digits : ℕ → List ℕ
four_digits c = codes "\\u" ++ (hex_digit (c / 4096 % 16) ∷ hex_digit (c / 256 % 16) ∷ hex_digit (c / 16 % 16) ∷ hex_digit (c % 16) ∷ [])

-- a code point, if it is a character and no surrogate
unfoldable pub character : ℕ → Option ℕ
character c = if nat_lt c 0xd800 || is_between 0xe000 0x10ffff c then Some c else None

-- a character as it stands in a JSON string, and a surrogate as an escape
abbrev pub character_text : Option ℕ → ℕ → List ℕ
character_text (Some k) c = flat_map escaped (encode_utf8 k)
character_text None c = four_digits c

abbrev pub point_text : ℕ → List ℕ
point_text c = character_text (character c) c

-- a code point, but of a first half nothing, since it waits for its second
abbrev pub alone_text : ℕ → List ℕ
alone_text c = if is_high c then [] else point_text c

abbrev pub alone_waiting : ℕ → Option ℕ
alone_waiting c = if is_high c then Some c else None

-- what is written at a code point, where a first half may wait before it
abbrev pub text_at : (waiting : Option ℕ) → ℕ → List ℕ
text_at None c = alone_text c
text_at (Some high) c = if is_low c then point_text (paired high c) else four_digits high ++ alone_text c

-- the first half that waits behind a code point
abbrev pub waiting_behind : (waiting : Option ℕ) → ℕ → Option ℕ
waiting_behind None c = alone_waiting c
waiting_behind (Some high) c = if is_low c then None else alone_waiting c

-- the same with what one more character says, which may be nothing
abbrev pub text_with : (waiting said : Option ℕ) → List ℕ
text_with waiting None = []
text_with waiting (Some c) = text_at waiting c

abbrev pub waiting_with : (waiting said : Option ℕ) → Option ℕ
waiting_with waiting None = waiting
waiting_with waiting (Some c) = waiting_behind waiting c

abbrev pub last_text : (waiting : Option ℕ) → List ℕ
last_text None = []
last_text (Some high) = four_digits high

-- code points as they stand in a JSON string
abbrev pub points_text : (waiting : Option ℕ) → List ℕ → List ℕ
points_text waiting [] = last_text waiting
points_text waiting (c ∷ cs) = text_at waiting c ++ points_text (waiting_behind waiting c) cs

-- ---- the value in a tree

-- U+FFFD in UTF-8
abbrev pub begins_mark : List ℕ → Bool
begins_mark (a ∷ b ∷ c ∷ bs) = a == 239 && (b == 191 && c == 189)
begins_mark _ = false

abbrev pub has_mark : List ℕ → Bool
has_mark [] = false
has_mark (b ∷ bs) = begins_mark (b ∷ bs) || has_mark bs

-- Whether the value is read from what was written: a tree that is made by hand may hold nothing there.
abbrev pub is_read : (value raw : List ℕ) → Bool
is_read value raw = ((first_byte raw == 34) || (first_byte raw == 39)) && has_mark value

-- the value as JSON
unfoldable pub string_text : (value raw : List ℕ) → List ℕ
string_text value raw = if is_read value raw then 34 ∷ (points_text None (points raw) ++ 34 ∷ []) else wrapped value

-- the value as JavaScript has it, in code units of UTF-16
unfoldable pub string_units : (value raw : List ℕ) → List ℕ
string_units value raw = flat_map encode_utf16 (if is_read value raw then points raw else chars value)
