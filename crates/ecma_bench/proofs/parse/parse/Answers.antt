-- The answer is that of a parser which begins at the text.
use Rattle.std.proofs.Common.{◌≡◌, sym, ◌∙◌, ap}
use Rattle.swc_ecma_parser_error.specs.Kind.{faults_of}
use Rattle.ecma_report.specs.Spelled.{start_of}
use Rattle.ecma_bench.specs.Figures.{SpellsAs}
use Rattle.ecma_bench.proofs.Parsed.{begins, neither, decided_as, Decided, clean_is_read, read_is_clean}
use Rattle.ecma_bench.proofs.parse.parse.Goals as goal

pub returns-clause-clean : goal.returns-clause-clean
returns-clause-clean c =
    let s = c.new-parser.result.state in
    let t = c.read-answer.new.parser.state in
    let found = neither _ _ (sym c.lacks_memory.ensures ∙ c.if-lacks_memory.false) in
    let at_text : s ≡ start_of c.args.text.now = c.new-parser.ensures.left found.0 found.1
    ∙ begins _ _ c.args.text.now _ c.default.ensures c.in_ok-input.ensures.start c.in_ok-input.ensures.text in
    let decided : Decided (SpellsAs c.args.goal c.args.text.now) c.read-answer.result t.faults = decided_as c.args.goal c.args.text.now s t _ c.read-answer.result at_text
    c.new-parser.ensures.limit c.read-answer.ensures.script c.read-answer.ensures.«module» in
    clean_is_read (SpellsAs c.args.goal c.args.text.now) c.read-answer.result c.as_slice.result.now t.faults decided (ap faults_of c.as_slice.ensures.value ∙ c.take_errors-faults.ensures.errors) c.clean.result c.clean.ensures.clean

pub returns-clause-spelled : goal.returns-clause-spelled
returns-clause-spelled c =
    let s = c.new-parser.result.state in
    let t = c.read-answer.new.parser.state in
    let found = neither _ _ (sym c.lacks_memory.ensures ∙ c.if-lacks_memory.false) in
    let at_text : s ≡ start_of c.args.text.now = c.new-parser.ensures.left found.0 found.1
    ∙ begins _ _ c.args.text.now _ c.default.ensures c.in_ok-input.ensures.start c.in_ok-input.ensures.text in
    let decided : Decided (SpellsAs c.args.goal c.args.text.now) c.read-answer.result t.faults = decided_as c.args.goal c.args.text.now s t _ c.read-answer.result at_text
    c.new-parser.ensures.limit c.read-answer.ensures.script c.read-answer.ensures.«module» in
    read_is_clean (SpellsAs c.args.goal c.args.text.now) c.read-answer.result c.as_slice.result.now t.faults decided (ap faults_of c.as_slice.ensures.value ∙ c.take_errors-faults.ensures.errors) c.clean.result
    c.clean.ensures.tree c.clean.ensures.refused
