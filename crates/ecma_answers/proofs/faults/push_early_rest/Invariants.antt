-- The early errors so far.
use Rattle.std.proofs.Common.{◌≡◌, ◌++◌, take}
use Rattle.std.specs.List.{flat_map}
use Rattle.ecma_answers.specs.Listed.{next_early}
use Rattle.ecma_answers.proofs.faults.push_early_rest.Given as goal

abbrev pub invariant-loop-error : goal.invariant-loop-error
invariant-loop-error l = l.out.items ≡ l.initial.out.items ++ flat_map (next_early l.source) (take l.error-index l.rest)
