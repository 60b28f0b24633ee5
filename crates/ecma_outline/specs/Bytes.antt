-- What a byte of a text is part of, as far as bytes tell it: a word, a sign, a string, a comment. No grammar is read.
use Rattle.std.specs.Prelude.{ℕ, ◌==◌, ◌&&◌, ◌||◌, Bool, true, false, not, nat_le, if◌then◌else◌}
use Rattle.std.specs.Int.{is_in_range}
use Rattle.ecma_outline.specs.declared.bytes.Mode.{Mode}
use Rattle.ecma_outline.specs.declared.bytes.Mode.TheVariants as mode

-- bytes by their numbers in ASCII; those of 128 and more are parts of other characters
abbrev pub is_newline : ℕ → Bool
is_newline b = b == 10 || b == 13

abbrev pub is_blank : ℕ → Bool
is_blank b = nat_le b 32

abbrev pub is_word : ℕ → Bool
is_word b =
    b == 95 || b == 36 || b == 35 || b == 64 || b == 92
    || is_in_range 97 122 b || is_in_range 65 90 b || is_in_range 48 57 b || is_in_range 128 255 b

abbrev pub is_sign : ℕ → Bool
is_sign b =
    b == 33 || b == 37 || b == 38 || b == 42 || b == 43 || b == 45 || b == 46
    || b == 60 || b == 61 || b == 62 || b == 63 || b == 94 || b == 124 || b == 126

abbrev pub is_quote : ℕ → Bool
is_quote b = b == 39 || b == 34 || b == 96

-- what a `/` behind it would divide
abbrev pub ends_operand : ℕ → Bool
ends_operand b = is_word b || is_quote b || b == 41 || b == 93 || b == 125

unfoldable pub begun : ℕ → Mode
begun b =
    if is_blank b then mode.Blank else if is_word b then mode.Word else if is_sign b then mode.Sign
    else if is_quote b then mode.Quoted b else if b == 47 then mode.Slash else mode.Mark

-- in a class of a regular expression (91), which `]` ends and `/` does not
unfoldable pub in_class : ℕ → Mode
in_class b =
    if b == 92 then mode.Escaped 91 else if b == 93 then mode.Quoted 47
    else if is_newline b then mode.Blank else mode.Quoted 91

-- in a string, a template (96) or a regular expression (47): a line's end ends all but templates
unfoldable pub quoted : (quote : ℕ) → ℕ → Mode
quoted q b =
    if q == 91 then in_class b
    else if b == 92 then mode.Escaped q else if b == q then mode.Mark
    else if q == 47 && b == 91 then mode.Quoted 91
    else if q == 96 && b == 36 then mode.Dollar
    else if is_newline b && not (q == 96) then mode.Blank else mode.Quoted q

-- behind a `$` in a template: `{` opens a bracket
unfoldable pub behind_dollar : ℕ → Mode
behind_dollar b = if b == 123 then mode.Mark else quoted 96 b

-- behind a `/`: a comment, a division, or a regular expression
unfoldable pub behind_slash : (last : ℕ) → ℕ → Mode
behind_slash last b =
    if b == 47 then mode.Line else if b == 42 then mode.Block
    else if ends_operand last then begun b else quoted 47 b

unfoldable pub in_block : (is_behind_star : Bool) → ℕ → Mode
in_block star b = if star && b == 47 then mode.Blank else if b == 42 then mode.Star else mode.Block

-- `last` is the last byte of the last token that is no `/`
unfoldable pub next_mode : Mode → (last : ℕ) → ℕ → Mode
next_mode mode.Line last b = if is_newline b then mode.Blank else mode.Line
next_mode mode.Block last b = in_block false b
next_mode mode.Star last b = in_block true b
next_mode (mode.Quoted q) last b = quoted q b
next_mode (mode.Escaped q) last b = mode.Quoted q
next_mode mode.Dollar last b = behind_dollar b
next_mode mode.Slash last b = behind_slash last b
next_mode _ last b = begun b

-- whether a token ends before a byte
unfoldable pub ends_before : Mode → (last : ℕ) → ℕ → Bool
ends_before mode.Word last b = not (is_word b)
ends_before mode.Sign last b = not (is_sign b)
ends_before mode.Mark last b = true
ends_before mode.Slash last b = ends_operand last && not (b == 47) && not (b == 42)
ends_before (mode.Quoted q) last b = is_newline b && not (q == 96)
ends_before mode.Dollar last b = b == 123
ends_before _ last b = false

unfoldable pub is_dollar : Mode → Bool
is_dollar mode.Dollar = true
is_dollar _ = false

unfoldable pub is_token : Mode → Bool
is_token mode.Blank = false
is_token mode.Line = false
is_token mode.Block = false
is_token mode.Star = false
is_token _ = true
