-- Which tokens are clean names, literals, regular expressions, texts of templates and shebangs.
use Rattle.std.specs.Prelude.{Bool, true, false, List, [], ◌∷◌}
use Rattle.swc_ecma_parser_token.specs.declared.token.Token.{Token}
use Rattle.swc_ecma_parser_token.specs.declared.token.Token.TheVariants as token
use Rattle.swc_ecma_parser_token.specs.declared.token.Word.TheVariants as word
use Rattle.swc_ecma_parser_token.specs.declared.token.TokenAndSpan.{TokenAndSpan}
use Rattle.swc_ecma_parser_token.specs.Text.{word_text}
use Rattle.swc_ecma_parser_input.specs.declared.context.Context.{Context}
use Rattle.swc_ecma_parser_grammar.specs.Names.{is_name}

-- whether a clean name stands first
abbrev pub token_is_clean : Context → Token → Bool
token_is_clean f (token.Word w) = is_name f (word_text w)
token_is_clean f _ = false

abbrev pub clean_first : Context → List TokenAndSpan → Bool
clean_first f [] = false
clean_first f (t ∷ ts) = token_is_clean f t.token

abbrev pub is_literal : Token → Bool
is_literal (token.Str value raw) = true
is_literal (token.Num raw) = true
is_literal (token.BigInt raw) = true
is_literal (token.Word word.Null) = true
is_literal (token.Word word.True) = true
is_literal (token.Word word.False) = true
is_literal _ = false

abbrev pub literal_first : List TokenAndSpan → Bool
literal_first [] = false
literal_first (t ∷ ts) = is_literal t.token

abbrev pub is_regex : Token → Bool
is_regex (token.Regex exp flags) = true
is_regex _ = false

abbrev pub regex_first : List TokenAndSpan → Bool
regex_first [] = false
regex_first (t ∷ ts) = is_regex t.token

abbrev pub is_text : Token → Bool
is_text (token.Template raw cooked) = true
is_text (token.TemplateHead raw cooked) = true
is_text (token.TemplateMiddle raw cooked) = true
is_text (token.TemplateTail raw cooked) = true
is_text _ = false

abbrev pub text_first : List TokenAndSpan → Bool
text_first [] = false
text_first (t ∷ ts) = is_text t.token

abbrev pub is_shebang : Token → Bool
is_shebang (token.Shebang text) = true
is_shebang _ = false

abbrev pub shebang_first : List TokenAndSpan → Bool
shebang_first [] = false
shebang_first (t ∷ ts) = is_shebang t.token
