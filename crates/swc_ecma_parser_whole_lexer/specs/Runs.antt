-- Characters of one class, as many as there are.
use Rattle.std.specs.Prelude.{◌≡◌, ℕ, Bool, false, not, ◌==◌, if◌then◌else◌, List, [], ◌∷◌, Option, Some, None}
use Rattle.std.specs.Char.{encode_utf8}
use Rattle.std.specs.Str.{chars, IsUtf8}
use Rattle.swc_ecma_parser_scan.specs.Chars.{is_between, is_digit, is_line_break, is_name_part}
use Rattle.swc_ecma_parser_whole_lexer.specs.declared.run.Class.{Class}
use Rattle.swc_ecma_parser_whole_lexer.specs.declared.run.Class.TheVariants as class

unfoldable pub is_of : Class → ℕ → Bool
is_of class.NamePart c = is_name_part c
is_of class.Line c = not (is_line_break c)
is_of class.Digit c = is_digit c
is_of class.Octal c = is_between 48 55 c
is_of class.Zero c = c == 48

-- what stands behind them
unfoldable pub past : Class → List ℕ → List ℕ
past k [] = []
past k (c ∷ cs) = if is_of k c then past k cs else c ∷ cs

-- the first character, if there is one, is of a class
unfoldable pub is_ahead : Class → List ℕ → Bool
is_ahead k [] = false
is_ahead k (c ∷ cs) = is_of k c

-- the first character, if there is one, is this one
unfoldable pub begins_with : ℕ → List ℕ → Bool
begins_with k [] = false
begins_with k (c ∷ cs) = c == k

unfoldable pub behind : List ℕ → List ℕ
behind [] = []
behind (c ∷ cs) = cs

-- a character in UTF-8, if there is one
abbrev pub bytes_of : Option ℕ → List ℕ
bytes_of (Some c) = encode_utf8 c
bytes_of None = []

-- a text in bytes whose characters are those that are wanted
pub record HasChars (wanted : Option (List ℕ)) (text : List ℕ) : Type 0 where
  pub found : wanted ≡ Some (chars text)
  pub utf8 : IsUtf8 text
