-- What is shown is the answer and the faults behind it.
use Rattle.std.proofs.Common.{◌≡◌, ap, ◌∙◌}
use Rattle.swc_ecma_parser_error.specs.Kind.{faults_of}
use Rattle.swc_ecma_parser_ast.specs.View.{view_module_item}
use Rattle.ecma_report.specs.Lines.{seen, answer_lines}
use Rattle.ecma_report.proofs.Reported.{shown_with}
use Rattle.ecma_report.proofs.items.show_item.Goals as goal

pub returns : goal.returns
returns g c =
    let a = c.parse_module_item-answer.result in
    let t = c.parse_module_item-answer.new.self.state in
    let fs = faults_of c.as_slice.result.now in
    let same : fs ≡ t.faults = ap faults_of c.as_slice.ensures.value ∙ c.take_errors-faults.ensures.errors in
    shown_with c.texts-shown.result c.texts-shown.ensures (λ shown h. (
      a,
      t,
      ap (λ p. p.state) c.take_errors-faults.ensures.state,
      h ∙ ap (answer_lines (seen view_module_item a)) same,
      c.parse_module_item-answer.ensures.sound,
      c.parse_module_item-answer.ensures.complete,
    ))
