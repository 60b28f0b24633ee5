-- The characters so far.
use Rattle.std.proofs.Common.{◌≡◌, ◌++◌, flat_map}
use Rattle.ecma_faults.specs.Shown.{shown_bytes}
use Rattle.ecma_faults.proofs.shown.push_shown.Given as goal

abbrev pub invariant-loop-c : goal.invariant-loop-c
invariant-loop-c l = l.out.items ≡ l.initial.out.items ++ flat_map (shown_bytes l.tab) l.yielded
