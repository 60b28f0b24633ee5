use Rattle.std.proofs.Common.{◌≡◌, map, length}
use Rattle.ecma_sorted.specs.Prologues.{says_strict}
use Rattle.ecma_sorted.proofs.prologue.is_strict.Given as goal

-- what the whole list says, the rest of it says
abbrev pub invariant-directives : goal.invariant-directives
invariant-directives g l = says_strict (map g.Y.IsDirective.held l.fn.items) ≡ says_strict (map g.Y.IsDirective.held l.rest)

abbrev pub decreases-directives : goal.decreases-directives
decreases-directives g l = length l.rest
