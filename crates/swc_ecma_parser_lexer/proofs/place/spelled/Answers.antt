use Rattle.std.proofs.Common.{refl}
use Rattle.swc_ecma_parser_lexer.proofs.place.spelled.Goals as goal

pub returns : goal.returns
returns c = record {
  span = c.span_of-span.ensures;
  had_line_break = refl;
  same = c.token_or_fault-token.ensures.token;
  lost = c.token_or_fault-token.ensures.lost;
}
