-- The list of tokens of a text.
use Rattle.std.specs.Prelude.{◌≡◌, ℕ, zero, suc, ◌+◌, ◌<◌, Bool, true, false, ◌==◌, ◌&&◌, ◌||◌, cond, length, List, [], ◌∷◌, ◌++◌}
use Rattle.std.specs.Char.{encode_utf8}
use Rattle.std.specs.Str.{chars, encode_utf8_all}
use Rattle.swc_ecma_parser_common.specs.declared.span.Span.{Span}
use Rattle.swc_ecma_parser_token.specs.declared.token.Token.{Token}
use Rattle.swc_ecma_parser_token.specs.declared.token.Token.TheVariants as token
use Rattle.swc_ecma_parser_token.specs.declared.token.Word.TheVariants as word
use Rattle.swc_ecma_parser_token.specs.declared.token.TokenAndSpan.{TokenAndSpan}
use Rattle.swc_ecma_parser_input.specs.TokenSource.{is_out_of_memory}
use Rattle.swc_ecma_parser_scan.specs.declared.state.State.{State}
use Rattle.swc_ecma_parser_scan.specs.declared.state.State.TheVariants as state
use Rattle.swc_ecma_parser_lexer.specs.declared.place.Place.{Place}
use Rattle.swc_ecma_parser_scan.specs.declared.piece.Piece.{Piece}
use Rattle.swc_ecma_parser_lexer.specs.Make as make
use Rattle.swc_ecma_parser_scan.specs.Scan.{scan, IsFirstPiece}
pub use Rattle.swc_ecma_parser_lexer.specs.Make.{token_of}

-- white space, line terminators and comments
unfoldable pub is_skipped : State → Bool
is_skipped state.Space = true
is_skipped state.LineBreak = true
is_skipped state.LineComment = true
is_skipped (state.BlockCommentEnd has_break) = true
is_skipped _ = false

unfoldable pub breaks : State → Bool
breaks state.LineBreak = true
breaks (state.BlockCommentEnd has_break) = has_break
breaks _ = false

abbrev pub span_at : ℕ → ℕ → Span
span_at low size = record { lo = record { 0 = low }; hi = record { 0 = low + size } }

-- the token that a piece spells, at a position
unfoldable pub token_at : ℕ → Bool → State → List ℕ → TokenAndSpan
token_at low had_line_break s text =
    let span = span_at low (length text) in
    record { token = make.token_of s text span; had_line_break = had_line_break; span = span }

-- The tokens of a text that starts at a position. So many characters of what is left still belong to the piece before,
-- and so many bytes of the text stand before what is left.
unfoldable pub tokens_behind : ℕ → ℕ → ℕ → Bool → List ℕ → List TokenAndSpan
tokens_behind start skip at had_line_break [] = []
tokens_behind start (suc skip) at had_line_break (c ∷ cs) = tokens_behind start skip (at + length (encode_utf8 c)) had_line_break cs
tokens_behind start zero at had_line_break (c ∷ cs) =
    let piece = scan (at == 0) c cs in
    let behind = at + length (encode_utf8 c) in
    cond (is_skipped piece.state)
    (tokens_behind start (length piece.taken) behind (had_line_break || breaks piece.state) cs)
    (token_at (start + at) had_line_break piece.state (encode_utf8_all (c ∷ piece.taken)) ∷ tokens_behind start (length piece.taken) behind false cs)

abbrev pub tokens : ℕ → ℕ → Bool → List ℕ → List TokenAndSpan
tokens start at had_line_break cs = tokens_behind start 0 at had_line_break cs

-- the tokens behind a place
abbrev pub tokens_at : Place → List TokenAndSpan
tokens_at p = tokens p.start.0 p.at p.had_line_break (chars p.rest.now)

-- a list that follows from a text at a place, and that pieces which are no tokens add nothing to
pub record IsBlind (f : ℕ → Bool → List ℕ → List TokenAndSpan) : Type 0 where
  pub skips : (at : ℕ) (b : Bool) (c : ℕ) (cs : List ℕ) → is_skipped (scan (at == 0) c cs).state ≡ true
      → f at b (c ∷ cs) ≡ f (at + length (encode_utf8_all (c ∷ (scan (at == 0) c cs).taken))) (b || breaks (scan (at == 0) c cs).state) (scan (at == 0) c cs).left

-- no token stands between two texts, of which so many bytes stand before the second and not before the first
abbrev pub IsSkipped : Bool → List ℕ → ℕ → Bool → List ℕ → Type 0
IsSkipped b text size has_break rest =
    (f : ℕ → Bool → List ℕ → List TokenAndSpan) → IsBlind f → (at : ℕ) → f at b (chars text) ≡ f (at + size) has_break (chars rest)

-- the same of two places
abbrev pub AreAlike : Place → Place → Type 0
AreAlike p q =
    (f : ℕ → Bool → List ℕ → List TokenAndSpan) → IsBlind f → f p.at p.had_line_break (chars p.rest.now) ≡ f q.at q.had_line_break (chars q.rest.now)

-- a place that stands behind another one in the same text
pub record IsBehind (p : Place) (q : Place) : Type 0 where
  pub between : List ℕ
  pub parts : p.rest.now ≡ between ++ q.rest.now
  pub at : q.at ≡ p.at + length between

-- the text ends at a position that fits
abbrev pub Fits : Place → Type 0
Fits p = p.start.0 + p.at + length p.rest.now < 4294967296

-- a place behind the piece at another place
pub record IsPast (p : Place) (piece : Piece) (q : Place) : Type 0 where
  pub start : q.start ≡ p.start
  pub at : q.at ≡ p.at + length piece.text.now
  pub had_line_break : q.had_line_break ≡ (is_skipped piece.state && (p.had_line_break || breaks piece.state))
  pub rest : q.rest.now ≡ piece.rest.now
  pub fits : Fits q

-- the piece at a place, which is a token
pub record IsToken (p : Place) (piece : Piece) : Type 0 where
  pub first : IsFirstPiece (p.at == 0) p.rest.now piece
  pub kept : is_skipped piece.state ≡ false

-- a token, unless there was no memory for it
abbrev pub IsTokenOrFault : Token → Token → Type 0
IsTokenOrFault wanted t = is_out_of_memory t ≡ false → t ≡ wanted

-- a token that has a text of its own, for which there may be no memory
unfoldable pub has_text : Token → Bool
has_text (token.Word (word.Ident text)) = true
has_text (token.Num raw) = true
has_text (token.BigInt raw) = true
has_text (token.Str value raw) = true
has_text (token.Shebang text) = true
has_text _ = false

-- only such a token is lost
abbrev pub IsLost : Token → Token → Type 0
IsLost wanted t = is_out_of_memory t ≡ true → has_text wanted ≡ true

-- the token that a piece spells at a place, unless there was no memory for it
pub record IsSpelled (place : Place) (piece : Piece) (t : TokenAndSpan) : Type 0 where
  pub span : t.span ≡ span_at (place.start.0 + place.at) (length piece.text.now)
  pub had_line_break : t.had_line_break ≡ place.had_line_break
  pub same : IsTokenOrFault (token_of piece.state piece.text.now t.span) t.token
  pub lost : IsLost (token_of piece.state piece.text.now t.span) t.token

-- a token that was read from a place on, and the place behind it
pub record IsReadAt (p : Place) (t : TokenAndSpan) (q : Place) : Type 0 where
  -- where it stands
  pub place : Place
  pub piece : Piece
  pub start : place.start ≡ p.start
  pub alike : AreAlike p place
  pub between : IsBehind p place
  pub fits : Fits place
  pub stands : IsToken place piece
  pub past : IsPast place piece q
  pub span : t.span ≡ span_at (place.start.0 + place.at) (length piece.text.now)
  pub had_line_break : t.had_line_break ≡ place.had_line_break
  pub same : IsTokenOrFault (token_of piece.state piece.text.now t.span) t.token
  pub lost : IsLost (token_of piece.state piece.text.now t.span) t.token
