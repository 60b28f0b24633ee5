-- The report is that of the answer, and the parser began at the text.
use Rattle.std.proofs.Common.{◌≡◌, refl, sym, ◌∙◌, subst}
use Rattle.swc_ecma_parser_ast.specs.View.{view_script}
use Rattle.swc_ecma_parser_reader.specs.Entry.{unmarked}
use Rattle.swc_ecma_parser_exactness.specs.Decides.{DecidesScript}
use Rattle.ecma_report.specs.Lines.{seen}
use Rattle.ecma_report.specs.Spelled.{start_of}
use Rattle.ecma_report.proofs.Reported.{neither, clean_is_spelled, spelled_is_clean, clean_report, spelled_report, reported_with}
use Rattle.ecma_report.proofs.answer.parse_script.Goals as goal

pub returns-clause-clean : goal.returns-clause-clean
returns-clause-clean c =
    let s = c.parser_of-parser.result.state in
    let t = c.parse_script-answer.new.self.state in
    let a = seen view_script c.parse_script-answer.result in
    let found = neither _ _ (sym c.lacks_memory.ensures ∙ c.if-lacks_memory.false) in
    let begins : s ≡ start_of c.args.text.now = c.parser_of-parser.ensures.state found.0 found.1 in
    let decides = subst (λ n. DecidesScript view_script n (unmarked s) c.parse_script-answer.result t) c.parser_of-parser.ensures.limit c.parse_script-answer.ensures.decides in
    clean_report c.finished.result a t.faults c.finished.ensures.verdict c.finished.ensures.lines
    (clean_is_spelled c.args.text.now t c.parse_script-answer.result s begins decides t.faults refl)

pub returns-clause-spelled : goal.returns-clause-spelled
returns-clause-spelled c = λ x p.
    let s = c.parser_of-parser.result.state in
    let t = c.parse_script-answer.new.self.state in
    let a = seen view_script c.parse_script-answer.result in
    let found = neither _ _ (sym c.lacks_memory.ensures ∙ c.if-lacks_memory.false) in
    let begins : s ≡ start_of c.args.text.now = c.parser_of-parser.ensures.state found.0 found.1 in
    let decides = subst (λ n. DecidesScript view_script n (unmarked s) c.parse_script-answer.result t) c.parser_of-parser.ensures.limit c.parse_script-answer.ensures.decides in
    spelled_report x c.finished.result a t.faults c.finished.ensures.verdict c.finished.ensures.lines
    (reported_with c.finished.result c.finished.ensures.found (λ m. spelled_is_clean c.args.text.now t c.parse_script-answer.result s begins decides m t.faults refl x p))
