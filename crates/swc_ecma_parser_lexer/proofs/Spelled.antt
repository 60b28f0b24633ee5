-- A token that a piece spells at a place, read from another place on.
use Rattle.std.proofs.Common.{◌≡◌, ◌+◌, Some, ap, ◌∙◌}
use Rattle.swc_ecma_parser_common.specs.declared.span.BytePos.{BytePos}
use Rattle.swc_ecma_parser_common.specs.declared.span.Span.{Span}
use Rattle.swc_ecma_parser_token.specs.declared.token.Token.{Token}
use Rattle.swc_ecma_parser_token.specs.declared.token.TokenAndSpan.{TokenAndSpan}
use Rattle.swc_ecma_parser_input.specs.declared.context.Context.{Context}
use Rattle.swc_ecma_parser_input.specs.declared.syntax.Syntax.{Syntax}
use Rattle.swc_ecma_parser_input.specs.Faults.{Faults}
use Rattle.swc_ecma_parser_input.specs.TokenSource.{Draws, IsDrawn}
use Rattle.swc_ecma_parser_scan.specs.declared.piece.Piece.{Piece}
use Rattle.swc_ecma_parser_lexer.specs.declared.place.Place.{Place}
use Rattle.swc_ecma_parser_lexer.specs.Source.{source_of}
use Rattle.swc_ecma_parser_lexer.specs.Tokens.{token_of, token_at, tokens_at, AreAlike, Fits, IsBehind, IsPast, IsReadAt, IsSpelled, IsToken}
use Rattle.swc_ecma_parser_lexer.proofs.Texts.{alike-tokens, past-token}

drawn : (place q : Place) (piece : Piece) (t : TokenAndSpan) → IsToken place piece → IsSpelled place piece t → IsPast place piece q → IsDrawn (tokens_at place) t (tokens_at q)
unfolding token_at
drawn place q piece t h s k = record {
  first = token_at (place.start.0 + place.at) place.had_line_break piece.state piece.text.now;
  list = past-token place piece q h.first k h.kept;
  span = s.span;
  had_line_break = s.had_line_break;
  same = λ f. ap (λ (x : Token). record { token = x; had_line_break = t.had_line_break; span = t.span }) (s.same f)
      ∙ ap (λ x. record { token = token_of piece.state piece.text.now t.span; had_line_break = x; span = t.span }) s.had_line_break
      ∙ ap (λ (x : Span). record { token = token_of piece.state piece.text.now x; had_line_break = place.had_line_break; span = x }) s.span;
}

module _ (p place q : Place) (piece : Piece) (t : TokenAndSpan) (start : place.start ≡ p.start) (alike : AreAlike p place) (h : IsToken place piece) (s : IsSpelled place piece t) (k : IsPast place piece q) where
  pub spelled-draws : (context : Context) (syntax : Syntax) (faults : Faults) → Draws (source_of p context syntax faults) (Some t) (source_of q context syntax faults)
  spelled-draws context syntax faults =
      let one = drawn place q piece t h s k in
      record {
        draws = record {
          first = one.first;
          list = alike-tokens p place alike start ∙ one.list;
          span = one.span;
          had_line_break = one.had_line_break;
          same = one.same;
        };
        rest = ap (λ (b : BytePos). record { left = tokens_at q; context = context; syntax = syntax; start = b; recorded = faults.recorded; held_back = faults.held_back }) (k.start ∙ start);
      }

  pub spelled-read : IsBehind p place → Fits place → IsReadAt p t q
  spelled-read between fits = record {
    place = place;
    piece = piece;
    start = start;
    alike = alike;
    between = between;
    fits = fits;
    stands = h;
    past = k;
    span = s.span;
    had_line_break = s.had_line_break;
    same = s.same;
    lost = s.lost;
  }
