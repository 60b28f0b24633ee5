-- What kind of token a text is, by its words and its bytes.
use Rattle.std.specs.Prelude.{ℕ, List, ◌-◌, ◌==◌, ◌&&◌, ◌||◌, Bool, not, nat_le, if◌then◌else◌, codes, length}
use Rattle.std.specs.Int.{is_in_range}
use Rattle.std.specs.Str.{bytes_eq}
use Rattle.ecma_outline.specs.Bytes.{is_word}
use Rattle.ecma_outline.specs.Piece.{byte_at}

-- A word that declares a variable in other languages
unfoldable pub is_type_word : List ℕ → Bool
is_type_word w =
    bytes_eq w (codes "int") || bytes_eq w (codes "float") || bytes_eq w (codes "double") || bytes_eq w (codes "long") || bytes_eq w (codes "short") || bytes_eq w (codes "char") || bytes_eq w (codes "byte") || bytes_eq w (codes "bool") || bytes_eq w (codes "boolean") || bytes_eq w (codes "string") || bytes_eq w (codes "String") || bytes_eq w (codes "str") || bytes_eq w (codes "auto") || bytes_eq w (codes "val") || bytes_eq w (codes "mut") || bytes_eq w (codes "final") || bytes_eq w (codes "dim") || bytes_eq w (codes "my") || bytes_eq w (codes "local") || bytes_eq w (codes "unsigned")

-- A word that declares a function in other languages
unfoldable pub is_function_word : List ℕ → Bool
is_function_word w =
    bytes_eq w (codes "def") || bytes_eq w (codes "fn") || bytes_eq w (codes "func") || bytes_eq w (codes "fun") || bytes_eq w (codes "sub") || bytes_eq w (codes "proc") || bytes_eq w (codes "procedure") || bytes_eq w (codes "defun") || bytes_eq w (codes "lambda")

-- A word that begins a declaration of TypeScript
unfoldable pub is_typed_head : List ℕ → Bool
is_typed_head w =
    bytes_eq w (codes "interface") || bytes_eq w (codes "type") || bytes_eq w (codes "namespace") || bytes_eq w (codes "module") || bytes_eq w (codes "declare") || bytes_eq w (codes "abstract")

-- A modifier of TypeScript
unfoldable pub is_modifier : List ℕ → Bool
is_modifier w =
    bytes_eq w (codes "public") || bytes_eq w (codes "private") || bytes_eq w (codes "protected") || bytes_eq w (codes "readonly") || bytes_eq w (codes "override") || bytes_eq w (codes "abstract") || bytes_eq w (codes "declare")

-- what other languages have for `else if`
unfoldable pub is_else_if : List ℕ → Bool
is_else_if w =
    bytes_eq w (codes "elif") || bytes_eq w (codes "elsif") || bytes_eq w (codes "elseif")

-- A word that declares variables
unfoldable pub is_declaring : List ℕ → Bool
is_declaring w =
    bytes_eq w (codes "var") || bytes_eq w (codes "let") || bytes_eq w (codes "const")

-- A bracket that closes
unfoldable pub is_closer : List ℕ → Bool
is_closer w =
    bytes_eq w (codes ")") || bytes_eq w (codes "]") || bytes_eq w (codes "}")

-- A word that an operand stands behind
unfoldable pub is_operand_keyword : List ℕ → Bool
is_operand_keyword w =
    bytes_eq w (codes "return") || bytes_eq w (codes "typeof") || bytes_eq w (codes "case") || bytes_eq w (codes "do") || bytes_eq w (codes "else") || bytes_eq w (codes "in") || bytes_eq w (codes "instanceof") || bytes_eq w (codes "void") || bytes_eq w (codes "delete") || bytes_eq w (codes "throw") || bytes_eq w (codes "new") || bytes_eq w (codes "yield") || bytes_eq w (codes "await") || bytes_eq w (codes "of") || bytes_eq w (codes "extends") || bytes_eq w (codes "default")

abbrev pub begins_with : List ℕ → ℕ → Bool
begins_with text b = byte_at text 0 == b

-- a byte of a text counted from its end, of which the last is 1; 0 where there is none
abbrev pub byte_from_end : List ℕ → ℕ → ℕ
byte_from_end text n = if nat_le n (length text) then byte_at text (length text - n) else 0

abbrev pub is_digit : ℕ → Bool
is_digit b = is_in_range 48 57 b

-- a name or a word
abbrev pub is_name : List ℕ → Bool
is_name text = is_word (byte_at text 0) && not (is_digit (byte_at text 0))

-- a string or a number
abbrev pub is_value : List ℕ → Bool
is_value text = is_digit (byte_at text 0) || byte_at text 0 == 34 || byte_at text 0 == 39

abbrev pub is_slash : List ℕ → Bool
is_slash text = byte_at text 0 == 47

-- the third byte of a character from U+2000 to U+203F, the second of one from U+0080 to U+00BF, or 0
abbrev pub punctuation : List ℕ → ℕ
punctuation text = if byte_at text 0 == 226 && byte_at text 1 == 128 then byte_at text 2 else 0

abbrev pub latin : List ℕ → ℕ
latin text = if byte_at text 0 == 194 then byte_at text 1 else 0

-- U+201C to U+201E, U+00AB and U+00BB
abbrev pub is_smart_quote : List ℕ → Bool
is_smart_quote text =
    punctuation text == 156 || punctuation text == 157 || punctuation text == 158 || latin text == 171 || latin text == 187

-- U+2018 to U+201A, U+2032 and U+00B4
abbrev pub is_smart_apostrophe : List ℕ → Bool
is_smart_apostrophe text =
    punctuation text == 152 || punctuation text == 153 || punctuation text == 154 || punctuation text == 178 || latin text == 180

-- U+2010 to U+2015 and U+2212
abbrev pub is_dash : List ℕ → Bool
is_dash text =
    (byte_at text 0 == 226 && byte_at text 1 == 136 && byte_at text 2 == 146)
    || (nat_le 144 (punctuation text) && nat_le (punctuation text) 149)

-- U+200B to U+200F, U+2060 and U+00AD
abbrev pub is_invisible : List ℕ → Bool
is_invisible text =
    (byte_at text 0 == 226 && byte_at text 1 == 129 && byte_at text 2 == 160)
    || (nat_le 139 (punctuation text) && nat_le (punctuation text) 143) || latin text == 173
