use Rattle.std.proofs.Common.{sym, ◌∙◌}
use Rattle.swc_ecma_parser_lexer.proofs.Literals.{is_well_escaped-past, is_well_escaped-end}
use Rattle.swc_ecma_parser_lexer.proofs.escape.is_well_escaped.Goals as goal

pub loop-c-preserved : goal.loop-c-preserved
loop-c-preserved c = record {
  text = c.in-Some.ensures.utf8;
  same = c.loop-c.invariant.same ∙ is_well_escaped-past c.args.quote c.loop-c.state _ c.in-Some.c _ c.escaped-next.result c.in-Some.ensures.begins c.escaped-next.ensures;
}

pub returns : goal.returns
returns c =
    let h = c.in_default.ensures in
    c.is_right.ensures ∙ sym (c.loop-c.invariant.same ∙ is_well_escaped-end c.args.quote c.loop-c.state _ h)
