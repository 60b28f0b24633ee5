use Rattle.std.proofs.Common.{◌≡◌, length}
use denote.Text.{Utf8}
use denote.Shadow.{shadow}
use Rattle.std.specs.Str.{chars}
use Rattle.swc_ecma_parser_whole_lexer.specs.declared.regex.Body.TheVariants as body
use Rattle.swc_ecma_parser_whole_lexer.specs.Regex as read
use Rattle.swc_ecma_parser_whole_lexer.proofs.regex.past_body.Given as goal

abbrev pub invariant-loop-c : goal.invariant-loop-c
invariant-loop-c l = record {
  text : shadow (Utf8 l.rest);
  same : read.past_body body.Open (chars l.fn.text) ≡ read.past_body l.body (chars l.rest);
}

abbrev pub decreases-loop-c : goal.decreases-loop-c
decreases-loop-c l = length l.rest
