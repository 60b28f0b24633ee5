-- Reserved words and names: ECMA-262, "Keywords and Reserved Words" (section 12.7.2) and "Identifiers" (section 13.1).
use Rattle.std.specs.Prelude.{Bool, false, not, ◌&&◌, ◌||◌, List, [], ◌∷◌, codes}
use Rattle.std.specs.List.{list_any}
use Rattle.std.specs.Str.{bytes_eq}
use Rattle.swc_ecma_parser_token.specs.declared.token.Token.{Token}
use Rattle.swc_ecma_parser_token.specs.declared.token.Token.TheVariants as token
use Rattle.swc_ecma_parser_token.specs.declared.token.TokenAndSpan.{TokenAndSpan}
use Rattle.swc_ecma_parser_token.specs.Text.{word_text}
use Rattle.swc_ecma_parser_input.specs.declared.context.Context.{Context}
use Rattle.swc_ecma_parser_input.specs.declared.syntax.EsSyntax.{EsSyntax}
use Rattle.swc_ecma_parser_input.specs.Place.{Place}
use Rattle.swc_ecma_parser_model.specs.Tree.{Text}

-- what stands around: the flags of the context, and the settings
pub record Code : Type 0 where
  pub flags : Context
  pub setting : EsSyntax

abbrev pub is_one_of : List Text → Text → Bool
is_one_of words text = list_any (λ word. bytes_eq text word) words

-- reserved everywhere
abbrev pub reserved_words : List Text
reserved_words =
    codes "break" ∷ codes "case" ∷ codes "catch" ∷ codes "continue" ∷ codes "debugger" ∷ codes "default" ∷ codes "do" ∷ codes "else" ∷ codes "finally" ∷ codes "for"
    ∷ codes "function" ∷ codes "if" ∷ codes "return" ∷ codes "switch" ∷ codes "throw" ∷ codes "try" ∷ codes "var" ∷ codes "const" ∷ codes "while" ∷ codes "with" ∷ codes "new"
    ∷ codes "this" ∷ codes "super" ∷ codes "class" ∷ codes "extends" ∷ codes "export" ∷ codes "import" ∷ codes "in" ∷ codes "instanceof" ∷ codes "typeof" ∷ codes "void"
    ∷ codes "delete" ∷ codes "null" ∷ codes "true" ∷ codes "false" ∷ codes "enum" ∷ []

-- reserved in strict mode code too
abbrev pub strict_words : List Text
strict_words =
    codes "let" ∷ codes "yield" ∷ codes "implements" ∷ codes "interface" ∷ codes "package" ∷ codes "private" ∷ codes "protected" ∷ codes "public" ∷ []

unfoldable pub is_reserved : Context → Text → Bool
is_reserved c text = is_one_of reserved_words text || ((c.strict && is_one_of strict_words text) || (c.in_generator && bytes_eq text (codes "yield")))

-- A word that is not reserved here: what stands where a name is asked for, and what begins an expression.
unfoldable pub is_identifier : Context → Text → Bool
is_identifier c text = not (is_reserved c text)

-- A name that is no fault: `await` is none in module code, in async code and in static blocks.
unfoldable pub is_clean_name : Context → Text → Bool
is_clean_name c text = is_identifier c text && not (bytes_eq text (codes "await") && (c.module || (c.in_async || c.in_static_block)))

-- the same where a name is asked for
unfoldable pub is_name : Context → Text → Bool
is_name c text = is_clean_name c text

-- Where `await` is a name and not a clean one it is a fault that is recorded, or it is refused: what is bound is refused in static
-- blocks, and what is referred to in async code too.
unfoldable pub may_bind_await : Context → Bool
may_bind_await c = not c.in_static_block

unfoldable pub may_refer_to_await : Context → Bool
may_refer_to_await c = not (c.in_async || c.in_static_block)

-- whether a word that is not reserved stands first
abbrev pub token_is_identifier : Context → Token → Bool
token_is_identifier c (token.Word w) = is_identifier c (word_text w)
token_is_identifier c _ = false

abbrev pub first_is_identifier : Context → List TokenAndSpan → Bool
first_is_identifier c [] = false
first_is_identifier c (t ∷ ts) = token_is_identifier c t.token

unfoldable pub identifier_at : Context → Place → Bool
identifier_at f c = first_is_identifier f c.left

-- where a name is asked for this is what stands there, clean or not
abbrev pub name_at : Context → Place → Bool
name_at f c = identifier_at f c
