use Rattle.std.proofs.Common.{◌++◌, length, ap, sym, ◌∙◌}
use Rattle.std.specs.Char.{encode_utf8}
use Rattle.swc_ecma_parser_lexer.proofs.Marks.{before_last-push, before_last-nil}
use Rattle.swc_ecma_parser_lexer.proofs.comment.before_last.Goals as goal

pub returns-in-Some : goal.returns-in-Some
returns-in-Some c =
    sym (before_last-push c.args.text.now c.as_str.result.now c.in-Some.field-0 c.utf8.text c.as_str.utf8
    (sym c.chars-characters.ensures.rest ∙ c.in-Some.ensures.steps ∙ ap (λ r. r ++ encode_utf8 c.in-Some.field-0) (sym c.as_str.ensures)))

pub returns-in-None : goal.returns-in-None
returns-in-None c = sym (before_last-nil c.args.text.now (ap length (sym c.chars-characters.ensures.rest) ∙ c.in-None.ensures.steps.0))
