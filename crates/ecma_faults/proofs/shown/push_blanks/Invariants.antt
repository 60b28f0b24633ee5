-- The characters so far.
use Rattle.std.proofs.Common.{◌≡◌, ◌++◌, flat_map}
use Rattle.ecma_faults.specs.Shown.{blank}
use Rattle.ecma_faults.proofs.shown.push_blanks.Given as goal

abbrev pub invariant-loop-c : goal.invariant-loop-c
invariant-loop-c l = l.out.items ≡ l.initial.out.items ++ flat_map blank l.yielded
