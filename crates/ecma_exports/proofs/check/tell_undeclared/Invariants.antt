-- What is told so far and what is yet to be told.
use Rattle.std.proofs.Common.{◌≡◌, ◌++◌, drop, map}
use Rattle.ecma_exports.specs.Exports.{all_undeclared}
use Rattle.ecma_exports.specs.Kept.{placed}
use Rattle.ecma_exports.proofs.check.tell_undeclared.Given as goal

abbrev pub invariant-loop-local : goal.invariant-loop-local
invariant-loop-local l = l.errors.items ++ all_undeclared l.exports.declared (map placed (drop l.local-index l.locals)) ≡ l.initial.errors.items ++ all_undeclared l.exports.declared (map placed l.locals)
