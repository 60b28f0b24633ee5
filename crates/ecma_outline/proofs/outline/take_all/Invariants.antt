-- What is read so far.
use Rattle.std.proofs.Common.{◌≡◌, ◌≤◌, take}
use Rattle.ecma_outline.specs.Outline.{scan, scanned, start}
use Rattle.ecma_outline.proofs.outline.take_all.Given as goal

abbrev pub invariant-loop-byte : goal.invariant-loop-byte
invariant-loop-byte l = record {
  read : scanned l.state l.it ≡ scan start (take l.byte-index l.text);
  at : l.state.at ≡ l.byte-index;
  indent : l.state.indent ≤ l.byte-index;
}
