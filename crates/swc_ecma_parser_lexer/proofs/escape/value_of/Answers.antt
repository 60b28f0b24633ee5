use Rattle.std.proofs.Common.{ℕ, Option, ◌++◌, ap, sym, ◌∙◌, string_bytes}
use Rattle.std.specs.Str.{chars}
use Rattle.swc_ecma_parser_lexer.specs.Strings.{value_of}
use Rattle.swc_ecma_parser_lexer.proofs.Literals.{value_of-past, value_of-end, appended}
use Rattle.swc_ecma_parser_lexer.proofs.escape.value_of.Goals as goal

pub loop-c-preserved : goal.loop-c-preserved
loop-c-preserved c =
    let past = value_of-past c.args.quote c.loop-c.state c.loop-c.waiting _ c.in-Some.c _ c.escaped-next.result c.in-Some.ensures.begins c.escaped-next.ensures in
    record {
      text = c.in-Some.ensures.utf8;
      same = appended _ _ _ _ _ _ _ c.loop-c.invariant.same past c.in_ok-waiting.ensures.bytes
          (ap (λ (w : Option ℕ). value_of c.args.quote c.escaped-next.result.state w (chars c.in-Some.behind.now)) c.in_ok-waiting.ensures.waiting);
    }

pub returns : goal.returns
returns c =
    let h = c.in_default.ensures in
    c.in_ok-say_last.ensures ∙ sym (c.loop-c.invariant.same ∙ ap (λ xs. string_bytes c.loop-c.value ++ xs) (value_of-end c.args.quote c.loop-c.state c.loop-c.waiting _ h))
