-- What a terminal is given to show: nothing that it might take for an order.
use Rattle.std.specs.Prelude.{ℕ, List, [], ◌∷◌, ◌==◌, ◌||◌, Bool, if◌then◌else◌, unwrap_or, replicate, flat_map, chars, encode_utf8, false}
use Rattle.std.specs.Char.{is_control}
use Rattle.std.specs.Int.{is_in_range}
use Rattle.unicode_width.specs.Width.{char_width}

-- a character that ends lines or turns the direction of a text
abbrev pub is_turn : ℕ → Bool
is_turn c = c == 0x61C || c == 0x200E || c == 0x200F || is_in_range 0x2028 0x202E c || is_in_range 0x2066 0x2069 c || c == 0xFEFF

-- a character that is not shown: a control character or such a one
abbrev pub is_hidden : ℕ → Bool
is_hidden c = is_control c || is_turn c

-- what is shown of a character, where 0xFFFD stands for what is not; of a tab (9) what is given
abbrev pub shown : (tab : ℕ) → ℕ → ℕ
shown tab c = if c == 9 then tab else if is_hidden c then 0xFFFD else c

-- the columns that a character takes as it is shown; 1 of a tab
abbrev pub columns : ℕ → ℕ
columns c = unwrap_or (char_width false (shown 9 c)) 1

-- a text as it is shown
abbrev pub shown_bytes : (tab : ℕ) → ℕ → List ℕ
shown_bytes tab c = encode_utf8 (shown tab c)

unfoldable pub shown_text : (tab : ℕ) → List ℕ → List ℕ
shown_text tab text = flat_map (shown_bytes tab) (chars text)

-- a name or a sentence, in which a tab is not shown
abbrev pub name_text : List ℕ → List ℕ
name_text = shown_text 0xFFFD

-- blanks as wide as a character; a tab stands under a tab
abbrev pub blank : ℕ → List ℕ
blank c = if c == 9 then 9 ∷ [] else replicate (columns c) 32

unfoldable pub blank_text : List ℕ → List ℕ
blank_text text = flat_map blank (chars text)
