use Rattle.std.proofs.Common.{ap, sym, ◌∙◌}
use Rattle.std.specs.Str.{chars}
use Rattle.swc_ecma_parser_whole_lexer.specs.declared.run.Class.TheVariants as class
use Rattle.swc_ecma_parser_whole_lexer.specs.Forms.{Reading}
use Rattle.swc_ecma_parser_whole_lexer.specs.Runs.{past}
use Rattle.swc_ecma_parser_whole_lexer.proofs.Formed.{body-longer, regex-closed}
use Rattle.swc_ecma_parser_whole_lexer.proofs.form.regex.Goals as goal

pub overflow_sub-result : goal.overflow_sub-result
overflow_sub-result c =
    let h = c.in-Some.ensures in
    body-longer c.behind-body.result.now c.in-Some.end.now c.behind-body.utf8 h.utf8 h.found

pub returns-in-Some : goal.returns-in-Some
returns-in-Some c =
    let h = c.in-Some.ensures in
    let e = regex-closed (chars c.args.text.now) c.behind-body.result.now c.in-Some.end.now (chars c.args.rest.now) c.behind-body.ensures c.behind-body.utf8 h.found h.utf8 in
    record {
      form = sym (ap (λ (r : Reading). r.form) e);
      left = c.past.ensures ∙ ap (past class.NamePart) c.behind.ensures ∙ sym (ap (λ (r : Reading). r.left) e);
      utf8 = c.past.utf8;
    }
