-- The tokens of a text are a plain list.
use Rattle.std.proofs.Common.{◌≡◌, ℕ, zero, suc, ◌+◌, Bool, true, false, nat_eq, ◌&&◌, ◌||◌, cond, length, List, [], ◌∷◌, Option, Some, None, refl, ap, ◌∙◌}
use Rattle.std.specs.Char.{encode_utf8}
use Rattle.std.specs.Prelude.{codes}
use Rattle.std.specs.Str.{bytes_eq, chars, encode_utf8_all}
use Rattle.swc_ecma_parser_common.specs.declared.span.Span.{Span}
use Rattle.swc_ecma_parser_token.specs.declared.keyword.Keyword.{Keyword}
use Rattle.swc_ecma_parser_token.specs.declared.token.Token.{Token}
use Rattle.swc_ecma_parser_token.specs.declared.token.Token.TheVariants as token
use Rattle.swc_ecma_parser_token.specs.declared.token.TokenAndSpan.{TokenAndSpan}
use Rattle.swc_ecma_parser_token.specs.declared.token.Word.{Word}
use Rattle.swc_ecma_parser_token.specs.declared.token.Word.TheVariants as word
use Rattle.swc_ecma_parser_grammar.specs.language.Plain.{is_plain_token, plain_list}
use Rattle.swc_ecma_parser_scan.specs.declared.state.Mark.{Mark}
use Rattle.swc_ecma_parser_scan.specs.declared.state.Mark.TheVariants as mark
use Rattle.swc_ecma_parser_scan.specs.declared.state.Number.{Number}
use Rattle.swc_ecma_parser_scan.specs.declared.state.State.{State}
use Rattle.swc_ecma_parser_scan.specs.declared.state.State.TheVariants as state
use Rattle.swc_ecma_parser_scan.specs.Scan.{scan}
use Rattle.swc_ecma_parser_lexer.specs.declared.escape.Escape.TheVariants as escape
use Rattle.swc_ecma_parser_lexer.specs.Make.{fault, is_big_int, is_number, keyword_in, keyword_or, keywords, mark_token, number_token, string_token, token_of, word_of}
use Rattle.swc_ecma_parser_lexer.specs.Strings.{is_well_escaped}
use Rattle.swc_ecma_parser_lexer.specs.Tokens.{breaks, is_skipped, token_at, tokens, tokens_behind}

choice : (b : Bool) (t u : Token) → is_plain_token t ≡ true → is_plain_token u ≡ true → is_plain_token (cond b t u) ≡ true
choice true t u h k = h
choice false t u h k = k

word-choice : (b : Bool) (v w : Word) → is_plain_token (token.Word v) ≡ true → is_plain_token (token.Word w) ≡ true → is_plain_token (token.Word (cond b v w)) ≡ true
word-choice true v w h k = h
word-choice false v w h k = k

plain-word-or : (found : Option Keyword) (name : List ℕ) → is_plain_token (token.Word (keyword_or found name)) ≡ true
plain-word-or (Some k) name = refl
plain-word-or None name =
    word-choice (bytes_eq name (codes "null")) word.Null _ refl
    (word-choice (bytes_eq name (codes "true")) word.True _ refl (word-choice (bytes_eq name (codes "false")) word.False (word.Ident name) refl refl))

plain-word : (name : List ℕ) → is_plain_token (token.Word (word_of name)) ≡ true
unfolding word_of
plain-word name = plain-word-or (keyword_in keywords name) name

plain-number : (n : Number) (raw : List ℕ) (span : Span) → is_plain_token (number_token n raw span) ≡ true
unfolding number_token fault
plain-number n raw span = choice (is_big_int n) (token.BigInt raw) _ refl (choice (is_number n) (token.Num raw) _ refl refl)

plain-string : (quote : ℕ) (raw : List ℕ) (span : Span) → is_plain_token (string_token quote raw span) ≡ true
unfolding string_token fault
plain-string quote raw span = choice (is_well_escaped quote escape.Text (chars raw)) _ _ refl refl

plain-mark : (m : Mark) → is_plain_token (mark_token m) ≡ true
unfolding mark_token
plain-mark mark.FirstHash = refl
plain-mark mark.DotDot = refl
plain-mark mark.Arrow = refl
plain-mark mark.Hash = refl
plain-mark mark.At = refl
plain-mark mark.Dot = refl
plain-mark mark.DotDotDot = refl
plain-mark mark.Bang = refl
plain-mark mark.LParen = refl
plain-mark mark.RParen = refl
plain-mark mark.LBracket = refl
plain-mark mark.RBracket = refl
plain-mark mark.LBrace = refl
plain-mark mark.RBrace = refl
plain-mark mark.Semi = refl
plain-mark mark.Comma = refl
plain-mark mark.Colon = refl
plain-mark mark.QuestionMark = refl
plain-mark mark.PlusPlus = refl
plain-mark mark.MinusMinus = refl
plain-mark mark.Tilde = refl

plain-token : (s : State) (text : List ℕ) (span : Span) → is_plain_token (token_of s text span) ≡ true
unfolding token_of fault
plain-token state.Name text span = plain-word text
plain-token (state.Number n) text span = plain-number n text span
plain-token (state.StrEnd quote) text span = plain-string quote text span
plain-token (state.Mark m) text span = plain-mark m
plain-token _ text span = refl

both : (a b : Bool) → a ≡ true → b ≡ true → (a && b) ≡ true
both a b h k = ap (λ x. x && b) h ∙ k

list-choice : (b : Bool) (ts us : List TokenAndSpan) → plain_list ts ≡ true → plain_list us ≡ true → plain_list (cond b ts us) ≡ true
list-choice true ts us h k = h
list-choice false ts us h k = k

one-more : (low : ℕ) (b : Bool) (s : State) (text : List ℕ) (ts : List TokenAndSpan) → plain_list ts ≡ true → plain_list (token_at low b s text ∷ ts) ≡ true
unfolding token_at
one-more low b s text ts h = both _ (plain_list ts) (plain-token s text _) h

plain_behind : (start skip at : ℕ) (b : Bool) (cs : List ℕ) → plain_list (tokens_behind start skip at b cs) ≡ true
unfolding tokens_behind
plain_behind start skip at b [] = refl
plain_behind start (suc skip) at b (c ∷ cs) = plain_behind start skip (at + length (encode_utf8 c)) b cs
plain_behind start zero at b (c ∷ cs) =
    let q = scan (nat_eq at 0) c cs in
    let behind = at + length (encode_utf8 c) in
    list-choice (is_skipped q.state) _ _
    (plain_behind start (length q.taken) behind (b || breaks q.state) cs)
    (one-more (start + at) b q.state (encode_utf8_all (c ∷ q.taken)) (tokens_behind start (length q.taken) behind false cs) (plain_behind start (length q.taken) behind false cs))

pub plain_tokens : (start at : ℕ) (b : Bool) (cs : List ℕ) → plain_list (tokens start at b cs) ≡ true
plain_tokens start at b cs = plain_behind start 0 at b cs
