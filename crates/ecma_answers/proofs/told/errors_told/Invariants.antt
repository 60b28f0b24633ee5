-- The early errors so far.
use Rattle.std.proofs.Common.{take}
use Rattle.ecma_answers.specs.Told.{AreToldEarly}
use Rattle.ecma_answers.proofs.told.errors_told.Given as goal

abbrev pub invariant-loop-error : goal.invariant-loop-error
invariant-loop-error l = AreToldEarly l.source.text (take l.error-index l.errors) l.list.items
