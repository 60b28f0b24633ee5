-- The tokens that pieces of the text spell, by their bytes.
use Rattle.std.specs.Prelude.{ℕ, Bool, true, false, if◌then◌else◌, List, [], ◌∷◌, Option, Some, None, codes}
use Rattle.std.specs.Str.{bytes_eq, chars, encode_utf8_all}
use Rattle.swc_ecma_parser_common.specs.declared.span.Span.{Span}
use Rattle.swc_ecma_parser_error.specs.declared.kind.SyntaxError.{SyntaxError}
use Rattle.swc_ecma_parser_error.specs.declared.kind.SyntaxError.TheVariants as kind
use Rattle.swc_ecma_parser_token.specs.declared.keyword.Keyword.{Keyword}
use Rattle.swc_ecma_parser_token.specs.declared.keyword.Keyword.TheVariants as keyword
use Rattle.swc_ecma_parser_token.specs.declared.token.Word.{Word}
use Rattle.swc_ecma_parser_token.specs.declared.token.Word.TheVariants as word
use Rattle.swc_ecma_parser_token.specs.declared.token.Token.{Token}
use Rattle.swc_ecma_parser_token.specs.declared.token.Token.TheVariants as token
use Rattle.swc_ecma_parser_token.specs.Text.{keyword_text}
use Rattle.swc_ecma_parser_scan.specs.declared.state.State.{State}
use Rattle.swc_ecma_parser_scan.specs.declared.state.State.TheVariants as state
use Rattle.swc_ecma_parser_scan.specs.declared.state.Number.{Number}
use Rattle.swc_ecma_parser_scan.specs.declared.state.Number.TheVariants as number
use Rattle.swc_ecma_parser_scan.specs.declared.state.Mark.{Mark}
use Rattle.swc_ecma_parser_scan.specs.declared.state.Mark.TheVariants as mark
use Rattle.swc_ecma_parser_lexer.specs.declared.escape.Escape.TheVariants as escape
use Rattle.swc_ecma_parser_lexer.specs.Strings.{is_well_escaped, value_of}

abbrev pub keywords : List Keyword
keywords =
    keyword.Await ∷
    keyword.Break ∷
    keyword.Case ∷
    keyword.Catch ∷
    keyword.Continue ∷
    keyword.Debugger ∷
    keyword.Default ∷
    keyword.Do ∷
    keyword.Else ∷
    keyword.Finally ∷
    keyword.For ∷
    keyword.Function ∷
    keyword.If ∷
    keyword.Return ∷
    keyword.Switch ∷
    keyword.Throw ∷
    keyword.Try ∷
    keyword.Var ∷
    keyword.Let ∷
    keyword.Const ∷
    keyword.While ∷
    keyword.With ∷
    keyword.New ∷
    keyword.This ∷
    keyword.Super ∷
    keyword.Class ∷
    keyword.Extends ∷
    keyword.Export ∷
    keyword.Import ∷
    keyword.Yield ∷
    keyword.In ∷
    keyword.InstanceOf ∷
    keyword.TypeOf ∷
    keyword.Void ∷
    keyword.Delete ∷
    []

-- the first of the words that is spelled so
unfoldable pub keyword_in : List Keyword → List ℕ → Option Keyword
keyword_in [] name = None
keyword_in (k ∷ ks) name = if bytes_eq (keyword_text k) name then Some k else keyword_in ks name

abbrev pub keyword_or : Option Keyword → List ℕ → Word
keyword_or (Some k) name = word.Keyword k
keyword_or None name =
    if bytes_eq name (codes "null") then word.Null else
    if bytes_eq name (codes "true") then word.True else
    if bytes_eq name (codes "false") then word.False else word.Ident name

unfoldable pub word_of : List ℕ → Word
word_of name = keyword_or (keyword_in keywords name) name

unfoldable pub fault : SyntaxError → Span → Token
fault k span = token.Error (record { span = span; kind = k })

unfoldable pub is_big_int : Number → Bool
is_big_int number.BigInt = true
is_big_int _ = false

unfoldable pub is_number : Number → Bool
is_number number.Zero = true
is_number number.Integer = true
is_number number.Point = true
is_number number.Fraction = true
is_number number.ExponentDigits = true
is_number (number.Digits b) = true
is_number _ = false

unfoldable pub number_token : Number → List ℕ → Span → Token
number_token n raw span =
    if is_big_int n then token.BigInt raw else
    if is_number n then token.Num raw else fault kind.InvalidNumber span

unfoldable pub string_token : ℕ → List ℕ → Span → Token
string_token quote raw span =
    if is_well_escaped quote escape.Text (chars raw)
    then token.Str (value_of quote escape.Text None (chars raw)) raw
    else fault kind.InvalidStrEscape span

abbrev pub rest_of : List ℕ → List ℕ
rest_of [] = []
rest_of (c ∷ cs) = cs

unfoldable pub behind_first : List ℕ → List ℕ
behind_first text = encode_utf8_all (rest_of (chars text))

unfoldable pub behind_mark : List ℕ → List ℕ
behind_mark text = behind_first (behind_first text)

unfoldable pub mark_token : Mark → Token
mark_token mark.FirstHash = token.Hash
mark_token mark.DotDot = token.Dot
mark_token mark.Arrow = token.Arrow
mark_token mark.Hash = token.Hash
mark_token mark.At = token.At
mark_token mark.Dot = token.Dot
mark_token mark.DotDotDot = token.DotDotDot
mark_token mark.Bang = token.Bang
mark_token mark.LParen = token.LParen
mark_token mark.RParen = token.RParen
mark_token mark.LBracket = token.LBracket
mark_token mark.RBracket = token.RBracket
mark_token mark.LBrace = token.LBrace
mark_token mark.RBrace = token.RBrace
mark_token mark.Semi = token.Semi
mark_token mark.Comma = token.Comma
mark_token mark.Colon = token.Colon
mark_token mark.QuestionMark = token.QuestionMark
mark_token mark.PlusPlus = token.PlusPlus
mark_token mark.MinusMinus = token.MinusMinus
mark_token mark.Tilde = token.Tilde

-- the token that a piece spells
unfoldable pub token_of : State → List ℕ → Span → Token
token_of state.Name text span = token.Word (word_of text)
token_of (state.Number n) text span = number_token n text span
token_of (state.StrEnd quote) text span = string_token quote text span
token_of (state.Str quote) text span = fault kind.UnterminatedStrLit span
token_of (state.StrEscape quote) text span = fault kind.UnterminatedStrLit span
token_of (state.StrReturn quote) text span = fault kind.UnterminatedStrLit span
token_of (state.BlockComment breaks) text span = fault kind.UnterminatedBlockComment span
token_of (state.BlockCommentStar breaks) text span = fault kind.UnterminatedBlockComment span
token_of state.Shebang text span = token.Shebang (behind_mark text)
token_of (state.Mark m) text span = mark_token m
token_of (state.BinOp op) text span = token.BinOp op
token_of (state.AssignOp op) text span = token.AssignOp op
token_of _ text span = fault kind.UnexpectedChar span
