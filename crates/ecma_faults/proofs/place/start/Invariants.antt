-- Where the search ends is the same from each offset on the way.
use Rattle.std.proofs.Common.{◌≡◌}
use Rattle.ecma_faults.specs.Excerpt.{back}
use Rattle.ecma_faults.proofs.place.start.Given as goal

abbrev pub invariant-loop-at : goal.invariant-loop-at
invariant-loop-at l = back l.places l.edge l.left l.at ≡ back l.places l.initial.edge l.initial.left l.initial.at

abbrev pub decreases-loop-at : goal.decreases-loop-at
decreases-loop-at l = l.at
