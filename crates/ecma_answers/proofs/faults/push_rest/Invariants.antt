-- The faults so far.
use Rattle.std.proofs.Common.{◌≡◌, ◌++◌, codes, take}
use Rattle.std.specs.List.{flat_map}
use Rattle.ecma_answers.specs.Listed.{next_text}
use Rattle.ecma_answers.proofs.faults.push_rest.Given as goal

abbrev pub invariant-loop-fault : goal.invariant-loop-fault
invariant-loop-fault l = l.out.items ≡ l.initial.out.items ++ flat_map (next_text l.source (codes "fault")) (take l.fault-index l.rest)
