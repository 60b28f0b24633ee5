use Rattle.std.proofs.Common.{◌≡◌, ◌-◌, ◌≤◌, length, drop}
use Rattle.std.specs.Str.{chars, IsUtf8}
use Rattle.swc_ecma_parser_scan.specs.Scan as read
use Rattle.swc_ecma_parser_scan.proofs.run.past_run.Given as goal

abbrev pub invariant-loop-at : goal.invariant-loop-at
invariant-loop-at l = record {
  within : l.at ≤ length l.text;
  utf8 : IsUtf8 (drop l.at l.text);
  state : (read.munch l.fn.state (chars (drop l.at l.text))).state ≡ (read.munch l.fn.state (chars l.text)).state;
  left : (read.munch l.fn.state (chars (drop l.at l.text))).left ≡ (read.munch l.fn.state (chars l.text)).left;
}

abbrev pub decreases-loop-at : goal.decreases-loop-at
decreases-loop-at l = length l.text - l.at
