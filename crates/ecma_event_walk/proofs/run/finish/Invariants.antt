-- The events so far and those that are yet to come stay the same together.
use Rattle.std.proofs.Common.{◌≡◌, ◌++◌, map}
use Rattle.ecma_events.specs.Event.{event_of}
use Rattle.ecma_event_walk.proofs.run.finish.Given as goal

abbrev pub invariant-loop : goal.invariant-loop
invariant-loop l = map event_of l.out.items ++ l.walk ≡ map event_of l.initial.out.items ++ l.initial.walk
