use Rattle.std.proofs.Common.{Bool, ℕ, Option, ◌++◌, ap, sym, ◌∙◌, string_bytes}
use Rattle.std.specs.Str.{chars}
use Rattle.swc_ecma_parser_whole_lexer.specs.Old.{old_value_of, step}
use Rattle.swc_ecma_parser_whole_lexer.proofs.Turns.{appended, old_value-more, old_value-end}
use Rattle.swc_ecma_parser_whole_lexer.proofs.old.old_value_of.Goals as goal

pub loop-c-preserved : goal.loop-c-preserved
loop-c-preserved c =
    let turn = c.step-next.ensures ∙ ap (λ (b : Bool). step c.args.quote c.loop-c.state c.in-Some.c b) c.is_ahead.ensures in
    let more = old_value-more c.args.quote c.loop-c.state c.loop-c.waiting _ c.in-Some.c _ c.step-next.result c.in-Some.ensures.begins turn in
    record {
      text = c.in-Some.ensures.utf8;
      same = appended _ _ _ _ _ _ _ c.loop-c.invariant.same more c.in_ok-waiting.ensures.bytes
          (ap (λ (w : Option ℕ). old_value_of c.args.quote c.step-next.result.state w (chars c.in-Some.behind.now)) c.in_ok-waiting.ensures.waiting);
    }

pub returns : goal.returns
returns c =
    let h = c.in_default.ensures in
    c.in_ok-say_last.ensures ∙ sym (c.loop-c.invariant.same ∙ ap (λ xs. string_bytes c.loop-c.value ++ xs) (old_value-end c.args.quote c.loop-c.state c.loop-c.waiting _ h))
