-- The faults so far.
use Rattle.std.proofs.Common.{take}
use Rattle.ecma_answers.specs.Told.{AreTold}
use Rattle.ecma_answers.proofs.told.recorded.Given as goal

abbrev pub invariant-loop-fault : goal.invariant-loop-fault
invariant-loop-fault l = AreTold l.source.text (take l.fault-index l.faults) l.list.items
