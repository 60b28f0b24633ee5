-- What is taken over so far and what is yet to be taken.
use Rattle.std.proofs.Common.{◌≡◌, ◌++◌, drop, map}
use Rattle.ecma_private_names.specs.Kept.{use_of}
use Rattle.ecma_private_names.specs.PrivateNames.{left_over}
use Rattle.ecma_private_names.proofs.classes.Class.take_over_all.Given as goal

abbrev pub invariant-loop-name : goal.invariant-loop-name
invariant-loop-name l =
    (l.self.members ≡ l.initial.self.members)
    × (l.self.uses ++ left_over l.inner.members (map use_of (drop l.name-index l.name-items)) ≡ l.initial.self.uses ++ left_over l.inner.members l.inner.uses)
