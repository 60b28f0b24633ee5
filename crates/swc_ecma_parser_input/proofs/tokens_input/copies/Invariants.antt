use Rattle.std.proofs.Common.{◌≡◌, take}
use Rattle.swc_ecma_parser_input.proofs.tokens_input.copies.Given as goal

abbrev pub invariant-loop-token : goal.invariant-loop-token
invariant-loop-token l = l.copies.items ≡ take l.token-index l.tokens
