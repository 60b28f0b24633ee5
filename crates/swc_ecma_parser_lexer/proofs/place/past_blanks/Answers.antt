use Rattle.std.proofs.Common.{◌++◌, take, ap, sym, ◌∙◌, refl, arith}
use Rattle.std.proofs.lemmas.List.{length-take-le, take-append-drop}
use Rattle.swc_ecma_parser_lexer.proofs.place.past_blanks.Goals as goal

pub returns : goal.returns
returns c = record {
  start = refl;
  alike = λ f blind. c.blanks-blanks.ensures.skipped f blind c.args.first.at;
  behind = record {
    between = take c.blanks-blanks.result.size c.args.first.rest.now;
    parts = sym (take-append-drop c.blanks-blanks.result.size c.args.first.rest.now)
        ∙ ap (λ xs. take c.blanks-blanks.result.size c.args.first.rest.now ++ xs) (sym c.blanks-blanks.ensures.rest);
    at = omega (arith, length-take-le c.blanks-blanks.result.size c.args.first.rest.now (omega (arith, c.blanks-blanks.ensures.size)));
  };
  comments = c.blanks-blanks.ensures.comments c.args.first.start.0 c.args.first.at;
  fits = omega (arith, c.blanks-blanks.ensures.size, c.requires);
  shorter = omega (arith, c.blanks-blanks.ensures.size);
}
