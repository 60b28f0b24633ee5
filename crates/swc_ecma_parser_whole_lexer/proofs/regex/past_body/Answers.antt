use Rattle.std.proofs.Common.{ap, sym, ◌∙◌, rules}
use Rattle.std.specs.Str.{chars}
use Rattle.swc_ecma_parser_whole_lexer.specs.declared.regex.Body.{Body}
use Rattle.swc_ecma_parser_whole_lexer.specs.Regex.{past_body}
use Rattle.swc_ecma_parser_whole_lexer.proofs.Turns.{body-break, body-end, body-more, body-nothing}
use Rattle.swc_ecma_parser_whole_lexer.proofs.regex.past_body.Goals as goal

pub loop-c-preserved : goal.loop-c-preserved
loop-c-preserved c =
    let breaks = sym c.is_line_break.ensures ∙ c.if-is_line_break.false in
    let ends = sym c.is_end.ensures ∙ c.if-is_end.false in
    record {
      text = c.in-Some.ensures.utf8;
      same = c.loop-c.invariant.same ∙ body-more c.loop-c.body _ c.in-Some.c _ c.in-Some.ensures.begins breaks ends
          ∙ ap (λ (b : Body). past_body b (chars c.in-Some.behind.now)) (sym c.body_behind-body.ensures);
    }

pub returns-then-is_line_break : goal.returns-then-is_line_break
returns-then-is_line_break c =
    c.loop-c.invariant.same ∙ body-break c.loop-c.body _ c.in-Some.c _ c.in-Some.ensures.begins (sym c.is_line_break.ensures ∙ c.if-is_line_break.true)

pub returns-then-is_end : goal.returns-then-is_end
returns-then-is_end c =
    let breaks = sym c.is_line_break.ensures ∙ c.if-is_line_break.false in
    record {
      found = c.loop-c.invariant.same ∙ body-end c.loop-c.body _ c.in-Some.c _ c.in-Some.ensures.begins breaks (sym c.is_end.ensures ∙ c.if-is_end.true);
      utf8 = search rules;
    }

pub returns : goal.returns
returns c =
    let h = c.in_default.ensures in
    c.loop-c.invariant.same ∙ body-nothing c.loop-c.body _ h
