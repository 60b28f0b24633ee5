-- The list of tokens of a text, the whole language being read.
use Rattle.std.specs.Prelude.{◌≡◌, ℕ, zero, suc, ◌+◌, ◌-◌, Bool, true, false, not, ◌==◌, ◌||◌, cond, length, take, List, [], ◌∷◌}
use Rattle.std.specs.Char.{encode_utf8}
use Rattle.std.specs.Option.{unwrap_or}
use Rattle.std.specs.Str.{chars, encode_utf8_all}
use Rattle.swc_ecma_parser_common.specs.declared.span.BytePos.{BytePos}
use Rattle.swc_ecma_parser_error.specs.declared.kind.SyntaxError.TheVariants as kind
use Rattle.swc_ecma_parser_token.specs.declared.kind.TokenKind.{TokenKind}
use Rattle.swc_ecma_parser_token.specs.declared.kind.TokenKind.TheVariants as kinds
use Rattle.swc_ecma_parser_token.specs.declared.operator.AssignOp.TheVariants as assign
use Rattle.swc_ecma_parser_token.specs.declared.operator.BinOpToken.TheVariants as bin
use Rattle.swc_ecma_parser_token.specs.declared.token.Token.{Token}
use Rattle.swc_ecma_parser_token.specs.declared.token.Token.TheVariants as token
use Rattle.swc_ecma_parser_token.specs.declared.token.TokenAndSpan.{TokenAndSpan}
use Rattle.swc_ecma_parser_token.specs.declared.token.Word.TheVariants as word
use Rattle.swc_ecma_parser_token.specs.Kind.{token_kind}
use Rattle.swc_ecma_parser_input.specs.TokenSource.{is_out_of_memory}
use Rattle.swc_ecma_parser_scan.specs.declared.state.State.{State}
use Rattle.swc_ecma_parser_scan.specs.declared.state.State.TheVariants as state
use Rattle.swc_ecma_parser_scan.specs.declared.piece.Piece.{Piece}
use Rattle.swc_ecma_parser_scan.specs.Scan.{scan}
use Rattle.swc_ecma_parser_lexer.specs.declared.lexer.Lexer.{Lexer}
use Rattle.swc_ecma_parser_lexer.specs.declared.place.Place.{Place}
use Rattle.swc_ecma_parser_lexer.specs.Make.{fault, token_of}
use Rattle.swc_ecma_parser_lexer.specs.Tokens.{breaks, is_skipped, span_at, Fits, IsLost, IsPast, IsToken, IsTokenOrFault}
use Rattle.swc_ecma_parser_nesting.specs.declared.nest.Nest.{Nest}
use Rattle.swc_ecma_parser_nesting.specs.Nesting.{begins_private_operand, begins_regex, ends_substitution, is_behind_new, is_too_deep, pass, taken_back}
use Rattle.swc_ecma_parser_whole_lexer.specs.declared.form.Goal.{Goal}
use Rattle.swc_ecma_parser_whole_lexer.specs.declared.form.Form.{Form}
use Rattle.swc_ecma_parser_whole_lexer.specs.Forms.{anew, is_comment, token_anew}
use Rattle.swc_ecma_parser_whole_lexer.specs.Runs.{begins_with}

-- what a token says, if it is a name
abbrev pub name_of : Token → List ℕ
name_of (token.Word (word.Ident name)) = name
name_of _ = []

-- a token that may be read anew; no other is. `cs` stand behind it.
unfoldable pub may_change : Nest → Token → List ℕ → Bool
may_change n (token.BinOp bin.Div) cs = begins_regex n
may_change n (token.AssignOp assign.DivAssign) cs = begins_regex n
may_change n (token.BinOp bin.Lt) cs = begins_with 33 cs
may_change n token.RBrace cs = ends_substitution n
may_change n token.QuestionMark cs = begins_with 46 cs
may_change n token.Dot cs = is_behind_new n
may_change n token.Hash cs = begins_private_operand n
may_change n token.MinusMinus cs = begins_with 62 cs
may_change n (token.Error e) cs = true
may_change n (token.Word w) cs = begins_with 92 cs
may_change n _ cs = false

-- the kind of a token that was lost, by its piece
unfoldable pub kind_of : State → TokenKind
kind_of state.Name = kinds.Ident
kind_of (state.Number n) = kinds.Num
kind_of (state.StrEnd quote) = kinds.Str
kind_of _ = kinds.Error

-- what a piece says for whose token there was no memory, if it is a name
unfoldable pub lost_name : State → List ℕ → List ℕ
lost_name state.Name text = text
lost_name _ text = []

-- the nest behind a token
abbrev pub nest_behind : Nest → Token → Nest
nest_behind n t = pass n (token_kind t) (name_of t)

-- a token, or a fault where it opens more than may be open: then it opens nothing
unfoldable pub settled : Nest → TokenAndSpan → TokenAndSpan
settled n it = cond (is_too_deep n) (record it { token = fault kind.TooDeep it.span }) it

unfoldable pub nest_settled : Nest → Nest
nest_settled n = cond (is_too_deep n) (taken_back n) n

-- a token that was gone past, unless there was no memory for it
pub record IsSettled (n : Nest) (it : TokenAndSpan) (t : TokenAndSpan) : Type 0 where
  pub span : t.span ≡ it.span
  pub had_line_break : t.had_line_break ≡ it.had_line_break
  pub same : is_out_of_memory t.token ≡ false → t ≡ settled n it

-- the token that a text at a position is, read anew as a form
unfoldable pub token_at : ℕ → Bool → Form → List ℕ → Token → TokenAndSpan
token_at low had_line_break f text plain =
    let span = span_at low (length text) in
    record { token = unwrap_or (token_anew f text span) plain; had_line_break = had_line_break; span = span }

-- The tokens of a text that starts at a position. So many characters of what is left still belong to the piece before,
-- and so many bytes of the text stand before what is left. `is_begun`: a token stands before.
unfoldable pub tokens_behind : Goal → ℕ → ℕ → ℕ → Bool → Bool → Nest → List ℕ → List TokenAndSpan
tokens_behind g start skip at had_line_break is_begun n [] = []
tokens_behind g start (suc skip) at had_line_break is_begun n (c ∷ cs) =
    tokens_behind g start skip (at + length (encode_utf8 c)) had_line_break is_begun n cs
tokens_behind g start zero at had_line_break is_begun n (c ∷ cs) =
    let piece = scan (at == 0) c cs in
    let behind = at + length (encode_utf8 c) in
    let short = encode_utf8_all (c ∷ piece.taken) in
    let plain = token_of piece.state short (span_at (start + at) (length short)) in
    let read = anew g n (had_line_break || not is_begun) plain (c ∷ cs) piece.left in
    let size = length cs - length read.left in
    let t = token_at (start + at) had_line_break read.form (encode_utf8_all (c ∷ take size cs)) plain in
    let passed = nest_behind n t.token in
    cond (is_skipped piece.state)
    (tokens_behind g start (length piece.taken) behind (had_line_break || breaks piece.state) is_begun n cs)
    (cond (is_comment read.form) (tokens_behind g start size behind had_line_break is_begun n cs)
    (settled passed t ∷ tokens_behind g start size behind false true (nest_settled passed) cs))

abbrev pub tokens : Goal → ℕ → ℕ → Bool → Bool → Nest → List ℕ → List TokenAndSpan
tokens g start at had_line_break is_begun n cs = tokens_behind g start 0 at had_line_break is_begun n cs

-- the tokens behind a place
abbrev pub tokens_at : Goal → Nest → Bool → Place → List TokenAndSpan
tokens_at g n is_begun p = tokens g p.start.0 p.at p.had_line_break is_begun n (chars p.rest.now)

-- the same from a token on that stands at a position in a text
abbrev pub tokens_from : Goal → Nest → Bool → BytePos → TokenAndSpan → List ℕ → List TokenAndSpan
tokens_from g n is_begun start t text = tokens g start.0 (t.span.lo.0 - start.0) t.had_line_break is_begun n (chars text)

-- the place behind what stands before the rest of a text at a position
pub record IsPlaceBehind (from : BytePos) (low : BytePos) (broken : Bool) (text : List ℕ) (left : List ℕ) (q : Place) : Type 0 where
  pub start : q.start ≡ from
  pub at : q.at ≡ low.0 - from.0 + (length text - length left)
  pub had_line_break : q.had_line_break ≡ broken
  pub rest : q.rest.now ≡ left

-- a lexer that stands at another place of the same text
pub record IsMoved (old : Lexer) (new : Lexer) : Type 0 where
  pub start : new.place.start ≡ old.place.start
  pub context : new.context ≡ old.context
  pub syntax : new.syntax ≡ old.syntax
  pub faults : new.faults ≡ old.faults
  pub comments : new.comments ≡ old.comments

-- a token of `Lexer`, the text that it begins, what stands behind it, and the place there
pub record IsFound (all : List ℕ) (left : List ℕ) (t : TokenAndSpan) (q : Place) : Type 0 where
  pub place : Place
  pub piece : Piece
  pub text : place.rest.now ≡ all
  pub rest : piece.rest.now ≡ left
  pub fits : Fits place
  pub stands : IsToken place piece
  pub past : IsPast place piece q
  pub span : t.span ≡ span_at (place.start.0 + place.at) (length piece.text.now)
  pub had_line_break : t.had_line_break ≡ place.had_line_break
  pub same : IsTokenOrFault (token_of piece.state piece.text.now t.span) t.token
  pub lost : IsLost (token_of piece.state piece.text.now t.span) t.token
