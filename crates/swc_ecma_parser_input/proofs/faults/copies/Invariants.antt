use Rattle.std.proofs.Common.{◌≡◌, take}
use Rattle.swc_ecma_parser_input.proofs.faults.copies.Given as goal

abbrev pub invariant-loop-error : goal.invariant-loop-error
invariant-loop-error l = l.copies.items ≡ take l.error-index l.errors
