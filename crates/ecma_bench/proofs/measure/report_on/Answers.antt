-- The bytes and tokens are the text's, and it was parsed.
use Rattle.std.proofs.Common.{rules}
use Rattle.ecma_bench.proofs.measure.report_on.Goals as goal

pub returns-clause-figures : goal.returns-clause-figures
returns-clause-figures g c =
    let (x, p) = c.in_ok-parse.ensures in
    record { bytes = search rules; tokens = c.in_ok-lexing.ensures; tree = x; spelled = p }
