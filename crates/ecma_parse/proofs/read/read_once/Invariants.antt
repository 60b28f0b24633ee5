-- An interrupted read takes nothing, and the chunk keeps its length.
use Rattle.std.proofs.Common.{◌≡◌, length}
use Rattle.std.specs.Io.KnownBytes.{Keeps}
use Rattle.ecma_parse.proofs.read.read_once.Given as goal

abbrev pub invariant-loop : goal.invariant-loop
invariant-loop g l = (length l.chunk ≡ length l.initial.chunk) × Keeps (g.R.Read.remaining l.initial.reader) (g.R.Read.remaining l.reader)
