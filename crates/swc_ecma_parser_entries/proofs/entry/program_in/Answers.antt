use Rattle.std.proofs.Common.{sym, ap, ◌∙◌}
use Rattle.swc_ecma_parser_reader.specs.Entry.{unmarked}
use Rattle.swc_ecma_parser_reader.specs.State.{coded}
use Rattle.swc_ecma_parser_module_reader.specs.Programs.{program_code}
use Rattle.swc_ecma_parser_entries.proofs.Begun.{begun_unmarked}
use Rattle.swc_ecma_parser_entries.proofs.entry.program_in.Goals as goal

pub returns-clause-answers : goal.returns-clause-answers
returns-clause-answers g c = λ s is f.
    let e = begun_unmarked s c.args.call.now is (sym c.is_marked.ensures ∙ c.if-is_marked.false) in
    c.program_body-read.ensures.answers (unmarked s) f (c.enter_program.ensures ∙ ap (λ z. coded (program_code z.code) z) e)

pub returns-clause-refuses : goal.returns-clause-refuses
returns-clause-refuses g c = λ s is f.
    let e = begun_unmarked s c.args.call.now is (sym c.is_marked.ensures ∙ c.if-is_marked.false) in
    c.program_body-read.ensures.refuses (unmarked s) f (c.enter_program.ensures ∙ ap (λ z. coded (program_code z.code) z) e)
