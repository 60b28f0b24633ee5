-- What stands around a fault of a text.
use Rattle.std.specs.Prelude.{ℕ, List, ◌-◌, ◌==◌, Bool, not, nat_lt, if◌then◌else◌, codes, length}
use Rattle.std.specs.Str.{bytes_eq}
use Rattle.swc_ecma_parser_common.specs.declared.span.Span.{Span}
use Rattle.swc_ecma_parser_error.specs.declared.error.Error.{Error}
use Rattle.swc_ecma_parser_error.specs.declared.kind.SyntaxError.{SyntaxError}
use Rattle.ecma_outline.specs.Outline.{outlined}
use Rattle.ecma_outline.specs.Piece.{piece}
use Rattle.ecma_outline.specs.Source.{bracket, bracket_at, index, lexeme, lexeme_before, lexeme_behind, spelled}
use Rattle.ecma_outline.specs.declared.outline.Lexeme.{Lexeme}
use Rattle.ecma_outline.specs.declared.outline.Open.{Open}
use Rattle.ecma_sentences.specs.Payload.{found_of, wanted_of}
use Rattle.ecma_situations.specs.Looked.{Looked}

abbrev pub cut : List ℕ → Span → List ℕ
cut text span = piece text span.lo.0 span.hi.0

-- whether the text ends where something is missing
abbrev pub is_at_end : SyntaxError → Bool
is_at_end k = bytes_eq (found_of k) (codes "<eof>")

-- where a fault is looked at: where it begins, or the end where the text ends there
abbrev pub place_of : List ℕ → Error → ℕ
place_of text e = if is_at_end e.kind then length text else e.span.lo.0

-- which token stands at a fault or behind it, that token, and the innermost bracket that is open there
abbrev pub found_at : List ℕ → Error → ℕ
found_at text e = index (outlined text) text (place_of text e)

abbrev pub found_lexeme : List ℕ → Error → Lexeme
found_lexeme text e = lexeme (outlined text) (found_at text e)

abbrev pub opener_of : List ℕ → Error → Open
opener_of text e = bracket_at (outlined text) (found_lexeme text e).top

-- whether a fault is within a token, as between signs that touch
abbrev pub is_within : List ℕ → Error → Bool
is_within text e = nat_lt (found_lexeme text e).start (place_of text e)

-- the token so many before a fault; within a token what of that stands before it is the first of them
abbrev pub text_before : List ℕ → Error → ℕ → List ℕ
text_before text e by =
    if not (is_within text e) then spelled text (lexeme_before (outlined text) (found_at text e) by)
    else if by == 1 then piece text (found_lexeme text e).start (place_of text e)
    else spelled text (lexeme_before (outlined text) (found_at text e) (by - 1))

-- the token at a fault, or what of it stands behind
abbrev pub found_text : List ℕ → Error → List ℕ
found_text text e = if is_within text e then piece text (place_of text e) (found_lexeme text e).end else spelled text (found_lexeme text e)

-- the tokens before, at and behind a fault, the bracket that is open there, what stands before it, and what before brackets that end
unfoldable pub look_at : (text : List ℕ) → Error → Looked
look_at text e = record {
  earlier = text_before text e 2;
  before = text_before text e 1;
  found = found_text text e;
  after = spelled text (lexeme_behind (outlined text) (found_at text e));
  opener = bracket text (found_lexeme text e).top;
  head = spelled text (lexeme_before (outlined text) (opener_of text e).lexeme 1);
  owner = spelled text (lexeme_before (outlined text) (opener_of text e).closed 1);
  callee = spelled text (lexeme_before (outlined text) (found_lexeme text e).closed 1);
  wanted = wanted_of e.kind;
  token = cut text e.span;
  is_end = is_at_end e.kind;
  is_within = is_within text e;
}
