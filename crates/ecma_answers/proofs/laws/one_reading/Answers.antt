-- Two readings of one text.
use Rattle.ecma_answers.proofs.Same.{one_finding, one_outcome, one_reading}
use Rattle.ecma_answers.proofs.laws.one_reading.Goals as goal

pub returns : goal.returns
returns c = record { readings = one_reading; findings = one_finding; outcomes = one_outcome }
