-- The text grows by the piece, which is not empty.
use Rattle.std.proofs.Common.{◌-◌, string_len}
use Rattle.ecma_bench.proofs.shape.repeated.Given as goal

abbrev pub decreases-loop-text : goal.decreases-loop-text
decreases-loop-text l = l.least - string_len l.text
