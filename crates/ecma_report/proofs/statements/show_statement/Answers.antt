-- What is shown is the answer and the faults behind it.
use Rattle.std.proofs.Common.{◌≡◌, ap, ◌∙◌}
use Rattle.swc_ecma_parser_error.specs.Kind.{faults_of}
use Rattle.swc_ecma_parser_ast.specs.View.{view_stmt}
use Rattle.ecma_report.specs.Lines.{seen, statement_lines}
use Rattle.ecma_report.proofs.Reported.{shown_with}
use Rattle.ecma_report.proofs.statements.show_statement.Goals as goal

pub returns : goal.returns
returns g c =
    let a = c.statement-answer.result in
    let t = c.statement-answer.new.parser.state in
    let fs = faults_of c.as_slice.result.now in
    let same : fs ≡ t.faults = ap faults_of c.as_slice.ensures.value ∙ c.take_errors-faults.ensures.errors in
    shown_with c.lines_of_statement-shown.result c.lines_of_statement-shown.ensures (λ shown h. (
      a,
      t,
      ap (λ p. p.state) c.take_errors-faults.ensures.state,
      h ∙ ap (statement_lines (seen view_stmt a)) same,
      c.statement-answer.ensures.sound,
      c.statement-answer.ensures.complete,
    ))
