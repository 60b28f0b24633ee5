-- A word, by the token that stands first.
use Rattle.std.proofs.Common.{◌≡◌, false, List, [], ◌∷◌, Some, Ok, refl}
use Rattle.swc_ecma_parser_common.specs.declared.span.Span.{Span}
use Rattle.swc_ecma_parser_error.specs.Kind as faults
use Rattle.swc_ecma_parser_token.specs.declared.token.Token.{Token}
use Rattle.swc_ecma_parser_token.specs.declared.token.Token.TheVariants as token
use Rattle.swc_ecma_parser_token.specs.declared.token.Word.{Word}
use Rattle.swc_ecma_parser_token.specs.declared.token.TokenAndSpan.{TokenAndSpan}
use Rattle.swc_ecma_parser_token.specs.Text.{word_text}
use Rattle.swc_ecma_parser_input.specs.Place.{first}
use Rattle.swc_ecma_parser_reader.specs.State.{State, moved, wanted}
use Rattle.swc_ecma_parser_reader.specs.Expressions.{any_word, word_in, word_by, token_is_word, first_is_word, is_word_at}

none_by : (s : State) (t : Token) (span : Span) → token_is_word t ≡ false → word_by s t span ≡ wanted faults.ExpectedIdent s
none_by s (token.Word w) span h = cc
none_by s _ span h = refl

none_in : (s : State) (ts : List TokenAndSpan) → first_is_word ts ≡ false → word_in s ts ≡ wanted faults.ExpectedIdent s
none_in s [] h = refl
none_in s (t ∷ ts) h = none_by s t.token t.span h

pub word_none : (s : State) → is_word_at s.at ≡ false → any_word s ≡ wanted faults.ExpectedIdent s
unfolding any_word is_word_at
word_none s h = none_in s s.at.left h

taken_in : (s : State) (ts : List TokenAndSpan) (t : TokenAndSpan) (w : Word) → Some t ≡ first ts → t.token ≡ token.Word w → word_in s ts ≡ Ok (record { span = t.span; sym = word_text w }, moved s)
taken_in s [] t w f e = cc
taken_in s (u ∷ us) t w f e = let g : t ≡ u = cc in rw (← g, e) refl

pub word_taken : (s : State) (t : TokenAndSpan) (w : Word) → Some t ≡ first s.at.left → t.token ≡ token.Word w → any_word s ≡ Ok (record { span = t.span; sym = word_text w }, moved s)
unfolding any_word
word_taken s t w f e = taken_in s s.at.left t w f e
