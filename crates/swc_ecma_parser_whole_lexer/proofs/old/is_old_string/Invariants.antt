use Rattle.std.proofs.Common.{◌≡◌, length}
use denote.Text.{Utf8}
use denote.Shadow.{shadow}
use Rattle.std.specs.Str.{chars}
use Rattle.swc_ecma_parser_lexer.specs.declared.escape.Escape.TheVariants as escape
use Rattle.swc_ecma_parser_whole_lexer.specs.declared.old.Old.TheVariants as old
use Rattle.swc_ecma_parser_whole_lexer.specs.Old as read
use Rattle.swc_ecma_parser_whole_lexer.proofs.old.is_old_string.Given as goal

abbrev pub invariant-loop-c : goal.invariant-loop-c
invariant-loop-c l = record {
  text : shadow (Utf8 l.rest);
  same : read.is_old_string l.fn.quote (old.Plain escape.Text) (chars l.fn.literal) ≡ read.is_old_string l.fn.quote l.state (chars l.rest);
}

abbrev pub decreases-loop-c : goal.decreases-loop-c
decreases-loop-c l = length l.rest
