-- An answer was there, and was dropped.
use Rattle.ecma_bench.specs.Figures.{SpellsAs}
use Rattle.ecma_bench.proofs.Measured.{some_tree}
use Rattle.ecma_bench.proofs.measure.parse_of.Goals as goal

pub returns : goal.returns
returns g c = some_tree (SpellsAs c.args.goal c.args.text.now) c.parse-answer.result c.parse-answer.ensures.clean c.in_ok-letting_go.ensures
