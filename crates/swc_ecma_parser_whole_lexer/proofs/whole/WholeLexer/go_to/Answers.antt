use Rattle.std.proofs.Common.{ap, arith, ◌∙◌}
use Rattle.swc_ecma_parser_common.specs.declared.span.BytePos.{BytePos}
use Rattle.swc_ecma_parser_lexer.specs.declared.place.Place.{Place}
use Rattle.swc_ecma_parser_whole_lexer.proofs.whole.WholeLexer.go_to.Goals as goal

pub set_place-requires : goal.set_place-requires
set_place-requires c =
    omega (arith, c.requires.low, c.requires.rest, c.requires.long, ap (λ (b : BytePos). b.0) c.start_pos-start.ensures)

pub returns-clause-lexer : goal.returns-clause-lexer
returns-clause-lexer c = record {
  start = ap (λ (p : Place). p.start) c.set_place.ensures.place ∙ c.start_pos-start.ensures;
  context = c.set_place.ensures.context;
  syntax = c.set_place.ensures.syntax;
  faults = c.set_place.ensures.faults;
  comments = c.set_place.ensures.comments;
}

pub returns-clause-place : goal.returns-clause-place
returns-clause-place c = record {
  start = ap (λ (p : Place). p.start) c.set_place.ensures.place ∙ c.start_pos-start.ensures;
  at = omega (arith, ap (λ (p : Place). p.at) c.set_place.ensures.place, ap (λ (b : BytePos). b.0) c.start_pos-start.ensures, c.requires.rest);
  had_line_break = ap (λ (p : Place). p.had_line_break) c.set_place.ensures.place;
  rest = ap (λ (p : Place). p.rest.now) c.set_place.ensures.place;
}
