use Rattle.std.proofs.Common.{◌≡◌, length}
use Rattle.swc_ecma_parser_lexer.specs.Collected.{IsReadOn}
use Rattle.swc_ecma_parser_lexer.specs.Tokens as read
use Rattle.swc_ecma_parser_lexer.proofs.place.find.Given as goal

abbrev pub invariant-loop-piece : goal.invariant-loop-piece
invariant-loop-piece l = record {
  tokens : read.tokens_at l.fn.first ≡ read.tokens_at l.place;
  alike : read.AreAlike l.fn.first l.place;
  behind : read.IsBehind l.fn.first l.place;
  start : l.place.start ≡ l.fn.first.start;
  fits : read.Fits l.place;
  comments : IsReadOn l.fn.comments l.fn.first l.comments l.place;
}

abbrev pub decreases-loop-piece : goal.decreases-loop-piece
decreases-loop-piece l = length l.place.rest.now
