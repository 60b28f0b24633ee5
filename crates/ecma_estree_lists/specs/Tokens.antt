-- Tokens as text, as espree names them.
use Rattle.std.specs.Prelude.{ℕ, List, [], ◌∷◌, ◌++◌, Bool, true, false, ◌&&◌, ◌||◌, cond, Option, Some, None, codes, length, min, slice_range}
use Rattle.std.specs.Str.{bytes_eq}
use Rattle.ecma_estree_text.specs.Places.{Placed, place_fields}
use Rattle.ecma_estree_text.specs.Quoted.{quoted, wrapped}
use Rattle.swc_ecma_parser_common.specs.declared.span.Span.{Span}
use Rattle.swc_ecma_parser_token.specs.Text.{word_text}
use Rattle.swc_ecma_parser_token.specs.declared.keyword.Keyword.{Keyword}
use Rattle.swc_ecma_parser_token.specs.declared.keyword.Keyword.TheVariants as keyword
use Rattle.swc_ecma_parser_token.specs.declared.token.Word.{Word}
use Rattle.swc_ecma_parser_token.specs.declared.token.Word.TheVariants as word
use Rattle.swc_ecma_parser_token.specs.declared.token.Token.{Token}
use Rattle.swc_ecma_parser_token.specs.declared.token.Token.TheVariants as token
use Rattle.swc_ecma_parser_token.specs.declared.token.TokenAndSpan.{TokenAndSpan}

-- `await` is a keyword in some places only
unfoldable pub keyword_type : Keyword → List ℕ
keyword_type keyword.Await = codes "Identifier"
keyword_type _ = codes "Keyword"

-- `static` is the one name that espree has for a keyword
unfoldable pub name_type : List ℕ → List ℕ
name_type text = cond (bytes_eq text (codes "static")) (codes "Keyword") (codes "Identifier")

unfoldable pub word_type : Word → List ℕ
word_type (word.Keyword k) = keyword_type k
word_type word.Null = codes "Null"
word_type word.True = codes "Boolean"
word_type word.False = codes "Boolean"
word_type (word.Ident text) = name_type text
word_type (word.Escaped text) = name_type text

unfoldable pub token_type : Token → List ℕ
token_type (token.Word w) = word_type w
token_type (token.Str value raw) = codes "String"
token_type (token.Num raw) = codes "Numeric"
token_type (token.BigInt raw) = codes "Numeric"
token_type (token.Regex exp flags) = codes "RegularExpression"
token_type (token.Template raw cooked) = codes "Template"
token_type (token.TemplateHead raw cooked) = codes "Template"
token_type (token.TemplateMiddle raw cooked) = codes "Template"
token_type (token.TemplateTail raw cooked) = codes "Template"
token_type _ = codes "Punctuator"

-- a first line that begins with `#!`, which is no token there, and a `#`, which is one with its name
abbrev pub is_hash : Token → Bool
is_hash token.Hash = true
is_hash token.HashIn = true
is_hash _ = false

abbrev pub is_shebang : Token → Bool
is_shebang (token.Shebang text) = true
is_shebang _ = false

abbrev pub is_passed : Token → Bool
is_passed t = is_hash t || is_shebang t

-- a part of a text
abbrev pub part : List ℕ → (low high : ℕ) → List ℕ
part text low high = slice_range text (min low (min high (length text))) (min high (length text))

-- how a token is written, of a word what it says
abbrev pub value_text : List ℕ → Token → Span → List ℕ
value_text text (token.Word w) s = word_text w
value_text text _ s = part text s.lo.0 s.hi.0

unfoldable pub token_head : (kind : List ℕ) → List ℕ
token_head kind = codes "{\"type\":\"" ++ (kind ++ codes "\",\"value\":")

-- what a regular expression has besides
unfoldable pub regex_field : Token → List ℕ
regex_field (token.Regex exp flags) = codes ",\"regex\":{\"flags\":" ++ (quoted flags ++ (codes ",\"pattern\":" ++ (quoted exp ++ codes "}")))
regex_field _ = []

unfoldable pub token_tail : Placed → (low high : ℕ) → (more : List ℕ) → List ℕ
token_tail p low high more = codes "," ++ (place_fields p low high ++ (more ++ codes "}"))

unfoldable pub written : Placed → (kind value : List ℕ) → (low high : ℕ) → (more : List ℕ) → List ℕ
written p kind value low high more = token_head kind ++ (wrapped value ++ token_tail p low high more)

-- a token, behind a `#` if it is the name of one
abbrev pub token_text : Placed → (hash : Option Span) → TokenAndSpan → List ℕ
token_text p None t = written p (token_type t.token) (value_text p.text t.token t.span) t.span.lo.0 t.span.hi.0 (regex_field t.token)
token_text p (Some mark) t = written p (codes "PrivateIdentifier") (value_text p.text t.token t.span) mark.lo.0 t.span.hi.0 []

abbrev pub comma : (is_first : Bool) → List ℕ
comma true = []
comma false = codes ","

abbrev pub step_text : Placed → (is_first : Bool) → (hash : Option Span) → TokenAndSpan → List ℕ
step_text p f h t = cond (is_passed t.token) [] (comma f ++ token_text p h t)

abbrev pub is_first_behind : (is_first : Bool) → TokenAndSpan → Bool
is_first_behind f t = f && is_passed t.token

abbrev pub hash_behind : TokenAndSpan → Option Span
hash_behind t = cond (is_hash t.token) (Some t.span) None

abbrev pub token_list : Placed → (is_first : Bool) → (hash : Option Span) → List TokenAndSpan → List ℕ
token_list p f h [] = []
token_list p f h (t ∷ ts) = step_text p f h t ++ token_list p (is_first_behind f t) (hash_behind t) ts

-- the field that holds them
unfoldable pub tokens_field : Placed → List TokenAndSpan → List ℕ
tokens_field p ts = codes ",\"tokens\":[" ++ (token_list p true None ts ++ codes "]")
