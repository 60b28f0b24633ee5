use Rattle.std.proofs.Common.{true, false, ap, sym, ◌∙◌}
use Rattle.std.specs.Str.{chars}
use Rattle.swc_ecma_parser_whole_lexer.specs.Forms.{Reading}
use Rattle.swc_ecma_parser_whole_lexer.proofs.Formed.{before-chars, string-by}
use Rattle.swc_ecma_parser_whole_lexer.proofs.form.old_string.Goals as goal

pub returns-then-is_old_string : goal.returns-then-is_old_string
returns-then-is_old_string c =
    let part = before-chars c.args.text.now c.before-2.result.now c.args.rest.now c.before-2.utf8 c.before-2.ensures in
    let e = string-by (chars c.args.text.now) (chars c.args.rest.now) _ c.first_of-quote.result true c.first_of-quote.ensures part (sym c.is_old_string.ensures ∙ c.if-is_old_string.true) in
    record {
      form = sym (ap (λ (r : Reading). r.form) e);
      left = sym (ap (λ (r : Reading). r.left) e);
      utf8 = c.utf8.rest;
    }

pub returns-else-is_old_string : goal.returns-else-is_old_string
returns-else-is_old_string c =
    let part = before-chars c.args.text.now c.before-2.result.now c.args.rest.now c.before-2.utf8 c.before-2.ensures in
    let e = string-by (chars c.args.text.now) (chars c.args.rest.now) _ c.first_of-quote.result false c.first_of-quote.ensures part (sym c.is_old_string.ensures ∙ c.if-is_old_string.false) in
    record {
      form = c.kept.ensures.form ∙ sym (ap (λ (r : Reading). r.form) e);
      left = c.kept.ensures.left ∙ sym (ap (λ (r : Reading). r.left) e);
      utf8 = c.kept.ensures.utf8;
    }
