use Rattle.std.proofs.Common.{sym, ◌∙◌}
use Rattle.swc_ecma_parser_whole_lexer.proofs.Turns.{past-more, past-stop, past-all}
use Rattle.swc_ecma_parser_whole_lexer.proofs.run.past.Goals as goal

pub loop-c-preserved : goal.loop-c-preserved
loop-c-preserved c = record {
  text = c.in-Some.ensures.utf8;
  same = c.loop-c.invariant.same ∙ past-more c.args.class _ c.in-Some.c _ c.in-Some.ensures.begins (sym c.is_of.ensures ∙ c.if-not-is_of.false);
}

pub returns-then-not-is_of : goal.returns-then-not-is_of
returns-then-not-is_of c = sym (c.loop-c.invariant.same ∙ past-stop c.args.class _ c.in-Some.c _ c.in-Some.ensures.begins (sym c.is_of.ensures ∙ c.if-not-is_of.true))

pub returns : goal.returns
returns c =
    let h = c.in_default.ensures in
    sym (c.loop-c.invariant.same ∙ past-all c.args.class _ h)
