use Rattle.std.proofs.Common.{Bool, ap, sym, ◌∙◌}
use Rattle.swc_ecma_parser_whole_lexer.specs.Old.{step}
use Rattle.swc_ecma_parser_whole_lexer.proofs.Turns.{old_string-more, old_string-end}
use Rattle.swc_ecma_parser_whole_lexer.proofs.old.is_old_string.Goals as goal

pub loop-c-preserved : goal.loop-c-preserved
loop-c-preserved c =
    let turn = c.step-state.ensures ∙ ap (λ (b : Bool). step c.args.quote c.loop-c.state c.in-Some.c b) c.is_ahead.ensures in
    record {
      text = c.in-Some.ensures.utf8;
      same = c.loop-c.invariant.same ∙ old_string-more c.args.quote c.loop-c.state _ c.in-Some.c _ c.step-state.result c.in-Some.ensures.begins turn;
    }

pub returns : goal.returns
returns c =
    let h = c.in_default.ensures in
    c.is_right.ensures ∙ sym (c.loop-c.invariant.same ∙ old_string-end c.args.quote c.loop-c.state _ h)
