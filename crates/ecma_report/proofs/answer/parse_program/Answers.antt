-- The report is that of the answer, and the parser began at the text.
use Rattle.std.proofs.Common.{◌≡◌, refl, sym, ◌∙◌, subst}
use Rattle.swc_ecma_parser_ast.specs.View.{view_program}
use Rattle.swc_ecma_parser_reader.specs.Entry.{unmarked}
use Rattle.swc_ecma_parser_exactness.specs.ModuleDecides.{DecidesProgram}
use Rattle.ecma_report.specs.Lines.{seen}
use Rattle.ecma_report.specs.Spelled.{start_of}
use Rattle.ecma_report.proofs.ProgramReports.{clean_program_is_spelled, spelled_program_is_clean}
use Rattle.ecma_report.proofs.Reported.{neither, text_ordered, clean_report, spelled_report, reported_with}
use Rattle.ecma_report.proofs.answer.parse_program.Goals as goal

pub returns-clause-clean : goal.returns-clause-clean
returns-clause-clean c =
    let s = c.parser_of-parser.result.state in
    let t = c.parse_program-answer.new.self.state in
    let a = seen view_program c.parse_program-answer.result in
    let found = neither _ _ (sym c.lacks_memory.ensures ∙ c.if-lacks_memory.false) in
    let begins : s ≡ start_of c.args.text.now = c.parser_of-parser.ensures.state found.0 found.1 in
    let decides = subst (λ n. DecidesProgram view_program n (unmarked s) c.parse_program-answer.result t) c.parser_of-parser.ensures.limit
    (c.parse_program-answer.ensures.decides 0 (text_ordered c.args.text.now s begins)) in
    clean_report c.finished.result a t.faults c.finished.ensures.verdict c.finished.ensures.lines
    (clean_program_is_spelled c.args.text.now s t begins c.parse_program-answer.result decides t.faults refl)

pub returns-clause-spelled : goal.returns-clause-spelled
returns-clause-spelled c = λ x p.
    let s = c.parser_of-parser.result.state in
    let t = c.parse_program-answer.new.self.state in
    let a = seen view_program c.parse_program-answer.result in
    let found = neither _ _ (sym c.lacks_memory.ensures ∙ c.if-lacks_memory.false) in
    let begins : s ≡ start_of c.args.text.now = c.parser_of-parser.ensures.state found.0 found.1 in
    let decides = subst (λ n. DecidesProgram view_program n (unmarked s) c.parse_program-answer.result t) c.parser_of-parser.ensures.limit
    (c.parse_program-answer.ensures.decides 0 (text_ordered c.args.text.now s begins)) in
    spelled_report x c.finished.result a t.faults c.finished.ensures.verdict c.finished.ensures.lines
    (reported_with c.finished.result c.finished.ensures.found (λ m. spelled_program_is_clean c.args.text.now s t begins c.parse_program-answer.result decides m t.faults refl x p))
