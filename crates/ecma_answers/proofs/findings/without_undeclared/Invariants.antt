-- The early errors so far.
use Rattle.std.proofs.Common.{◌≡◌, not, take}
use Rattle.std.specs.List.{filter}
use Rattle.ecma_answers.specs.Found.{is_of_undeclared}
use Rattle.ecma_answers.proofs.findings.without_undeclared.Given as goal

abbrev pub invariant-loop-error : goal.invariant-loop-error
invariant-loop-error l = l.kept.items ≡ filter (λ k. not (is_of_undeclared k.kind)) (take l.error-index l.errors)
