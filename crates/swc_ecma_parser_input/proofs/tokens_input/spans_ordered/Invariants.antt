use Rattle.std.proofs.Common.{◌≡◌, drop}
use Rattle.swc_ecma_parser_input.specs.TokenSource.{ordered_from}
use Rattle.swc_ecma_parser_input.proofs.tokens_input.spans_ordered.Given as goal

abbrev pub invariant-loop-token : goal.invariant-loop-token
invariant-loop-token l = ordered_from 0 l.tokens ≡ ordered_from l.at.0 (drop l.token-index l.tokens)
