use Rattle.swc_ecma_parser_ast.specs.View.{view_script}
use Rattle.swc_ecma_parser_error.specs.Kind.{faults_of}
use Rattle.swc_ecma_parser_grammar.specs.language.Programs as programs
use Rattle.swc_ecma_parser.specs.Headline.{end_of}
use Rattle.swc_ecma_parser.proofs.Answered.{headline, plain_exactly, of_answer, outright, whole_stands}
use Rattle.swc_ecma_parser.proofs.headline.read_script.Goals as goal

pub returns : goal.returns
returns g c =
    let new = c.new_from_limited-parser in
    let call = c.parse_script-answer in
    let source = g.I.Tokens.seen c.args.input in
    let fs = faults_of c.take_errors-faults.result.items in
    let s = new.result.state in
    let t = call.new.self.state in
    let limit = c.args.limit in
    let n = new.result.limit in
    let is = new.ensures.limit in
    let taken = c.take_errors-faults.ensures.errors in
    let left = new.ensures.left in
    let len = new.ensures.len in
    let r = call.result in
    let ahead = call.ensures.ahead in
    let d = end_of source in
    let stands = whole_stands view_script source limit n is s t fs taken left len r ahead call.ensures.stays (of_answer r call.ensures.sound (λ y p. p.whole)) in
    headline view_script source limit n is s t fs taken left len r ahead d stands programs.script
    (plain_exactly view_script source limit n is s t fs taken left len r ahead d stands programs.script call.ensures.decides)
    call.ensures.walk call.ensures.reads call.ensures.refuses call.ensures.fits (outright view_script source limit n is s t fs taken left len r ahead call.ensures.outright)
