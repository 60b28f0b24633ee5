use Rattle.std.proofs.Common.{◌≡◌, false, length}
use denote.Text.{Utf8}
use denote.Shadow.{shadow}
use Rattle.std.specs.Str.{chars}
use Rattle.swc_ecma_parser_whole_lexer.specs.Templates as read
use Rattle.swc_ecma_parser_whole_lexer.proofs.template.past_part.Given as goal

abbrev pub invariant-loop-c : goal.invariant-loop-c
invariant-loop-c l = record {
  text : shadow (Utf8 l.rest);
  same : read.past_part false (chars l.fn.text) ≡ read.past_part l.is_escaped (chars l.rest);
}

abbrev pub decreases-loop-c : goal.decreases-loop-c
decreases-loop-c l = length l.rest
