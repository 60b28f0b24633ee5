use Rattle.std.proofs.Common.{◌≡◌, length}
use denote.Text.{Utf8}
use denote.Shadow.{shadow}
use Rattle.std.specs.Str.{chars}
use Rattle.swc_ecma_parser_whole_lexer.specs.Runs as read
use Rattle.swc_ecma_parser_whole_lexer.proofs.run.past.Given as goal

abbrev pub invariant-loop-c : goal.invariant-loop-c
invariant-loop-c l = record {
  text : shadow (Utf8 l.rest);
  same : read.past l.fn.class (chars l.fn.text) ≡ read.past l.fn.class (chars l.rest);
}

abbrev pub decreases-loop-c : goal.decreases-loop-c
decreases-loop-c l = length l.rest
