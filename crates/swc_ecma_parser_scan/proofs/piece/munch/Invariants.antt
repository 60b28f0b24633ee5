use Rattle.std.proofs.Common.{◌≡◌, length}
use denote.Text.{Utf8}
use denote.Shadow.{shadow}
use Rattle.std.specs.Str.{chars}
use Rattle.swc_ecma_parser_scan.specs.Scan as read
use Rattle.swc_ecma_parser_scan.proofs.piece.munch.Given as goal

abbrev pub invariant-loop-c : goal.invariant-loop-c
invariant-loop-c l = record {
  text : shadow (Utf8 l.rest);
  state : (read.munch l.fn.first (chars l.fn.text)).state ≡ (read.munch l.state (chars l.rest)).state;
  left : (read.munch l.fn.first (chars l.fn.text)).left ≡ (read.munch l.state (chars l.rest)).left;
}

abbrev pub decreases-loop-c : goal.decreases-loop-c
decreases-loop-c l = length l.rest
