-- No token that a piece spells says that there was no memory.
use Rattle.std.proofs.Common.{◌≡◌, ℕ, Bool, true, false, cond, List, refl}
use Rattle.std.specs.Str.{chars}
use Rattle.swc_ecma_parser_common.specs.declared.span.Span.{Span}
use Rattle.swc_ecma_parser_token.specs.declared.token.Token.{Token}
use Rattle.swc_ecma_parser_token.specs.declared.token.Token.TheVariants as token
use Rattle.swc_ecma_parser_input.specs.TokenSource.{is_out_of_memory}
use Rattle.swc_ecma_parser_scan.specs.declared.state.Mark.{Mark}
use Rattle.swc_ecma_parser_scan.specs.declared.state.Mark.TheVariants as mark
use Rattle.swc_ecma_parser_scan.specs.declared.state.Number.{Number}
use Rattle.swc_ecma_parser_scan.specs.declared.state.State.{State}
use Rattle.swc_ecma_parser_scan.specs.declared.state.State.TheVariants as state
use Rattle.swc_ecma_parser_lexer.specs.declared.escape.Escape.TheVariants as escape
use Rattle.swc_ecma_parser_lexer.specs.Make.{fault, is_big_int, is_number, mark_token, number_token, string_token, token_of}
use Rattle.swc_ecma_parser_lexer.specs.Strings.{is_well_escaped}

choice : (b : Bool) (t u : Token) → is_out_of_memory t ≡ false → is_out_of_memory u ≡ false → is_out_of_memory (cond b t u) ≡ false
choice true t u h k = h
choice false t u h k = k

of-number : (n : Number) (raw : List ℕ) (span : Span) → is_out_of_memory (number_token n raw span) ≡ false
unfolding number_token fault
of-number n raw span = choice (is_big_int n) (token.BigInt raw) _ refl (choice (is_number n) (token.Num raw) _ refl refl)

of-string : (quote : ℕ) (raw : List ℕ) (span : Span) → is_out_of_memory (string_token quote raw span) ≡ false
unfolding string_token fault
of-string quote raw span = choice (is_well_escaped quote escape.Text (chars raw)) _ _ refl refl

of-mark : (m : Mark) → is_out_of_memory (mark_token m) ≡ false
unfolding mark_token
of-mark mark.FirstHash = refl
of-mark mark.DotDot = refl
of-mark mark.Arrow = refl
of-mark mark.Hash = refl
of-mark mark.At = refl
of-mark mark.Dot = refl
of-mark mark.DotDotDot = refl
of-mark mark.Bang = refl
of-mark mark.LParen = refl
of-mark mark.RParen = refl
of-mark mark.LBracket = refl
of-mark mark.RBracket = refl
of-mark mark.LBrace = refl
of-mark mark.RBrace = refl
of-mark mark.Semi = refl
of-mark mark.Comma = refl
of-mark mark.Colon = refl
of-mark mark.QuestionMark = refl
of-mark mark.PlusPlus = refl
of-mark mark.MinusMinus = refl
of-mark mark.Tilde = refl

pub never-lost : (s : State) (text : List ℕ) (span : Span) → is_out_of_memory (token_of s text span) ≡ false
unfolding token_of fault
never-lost (state.Number n) text span = of-number n text span
never-lost (state.StrEnd quote) text span = of-string quote text span
never-lost (state.Mark m) text span = of-mark m
never-lost _ text span = refl
