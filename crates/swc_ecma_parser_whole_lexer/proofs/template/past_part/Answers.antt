use Rattle.std.proofs.Common.{sym, ◌∙◌, rules}
use Rattle.swc_ecma_parser_whole_lexer.proofs.Turns.{part-end, part-more, part-nothing}
use Rattle.swc_ecma_parser_whole_lexer.proofs.template.past_part.Goals as goal

pub loop-c-preserved : goal.loop-c-preserved
loop-c-preserved c = record {
  text = c.in-Some.ensures.utf8;
  same = c.loop-c.invariant.same ∙ part-more c.loop-c.is_escaped _ c.in-Some.c _ c.in-Some.ensures.begins (sym c.ends_part.ensures ∙ c.if-ends_part.false);
}

pub returns-then-ends_part : goal.returns-then-ends_part
returns-then-ends_part c = record {
  found = c.loop-c.invariant.same ∙ part-end c.loop-c.is_escaped _ c.in-Some.c _ c.in-Some.ensures.begins (sym c.ends_part.ensures ∙ c.if-ends_part.true);
  utf8 = search rules;
}

pub returns : goal.returns
returns c =
    let h = c.in_default.ensures in
    c.loop-c.invariant.same ∙ part-nothing c.loop-c.is_escaped _ h
