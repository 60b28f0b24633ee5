-- The figures are those of the text that was made.
use Rattle.std.proofs.Common.{rules}
use Rattle.ecma_bench.specs.Words.{least_of}
use Rattle.ecma_bench.proofs.Measured.{some_text, enough}
use Rattle.ecma_bench.proofs.measure.measure.Goals as goal

pub returns-clause-figures : goal.returns-clause-figures
returns-clause-figures g c = some_text c.report_on.result c.as_str.result.now c.report_on.ensures.figures

pub returns-clause-bytes : goal.returns-clause-bytes
returns-clause-bytes g c = enough c.report_on.result c.as_str.result.now (least_of c.args.command.source) c.report_on.ensures.figures (search rules)
