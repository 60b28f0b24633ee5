-- The tokens drawn and those left are as many as at the start.
use Rattle.std.proofs.Common.{◌≡◌, ◌+◌, length}
use Rattle.ecma_bench.proofs.count.count.Given as goal

abbrev pub invariant-loop-count : goal.invariant-loop-count
invariant-loop-count g l = l.count + length (g.I.Tokens.seen l.source).left ≡ length (g.I.Tokens.seen l.fn.source).left
