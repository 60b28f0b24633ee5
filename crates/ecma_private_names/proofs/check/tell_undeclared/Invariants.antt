-- What is told so far and what is yet to be told.
use Rattle.std.proofs.Common.{◌≡◌, ◌++◌, drop, map}
use Rattle.ecma_private_names.specs.Kept.{use_of}
use Rattle.ecma_private_names.specs.PrivateNames.{all_undeclared}
use Rattle.ecma_private_names.proofs.check.tell_undeclared.Given as goal

abbrev pub invariant-loop-name : goal.invariant-loop-name
invariant-loop-name l =
    l.errors.items ++ all_undeclared l.outermost.members (map use_of (drop l.name-index l.name-items)) ≡ l.initial.errors.items ++ all_undeclared l.outermost.members l.outermost.uses
