use Rattle.std.proofs.Common.{◌≡◌, ◌++◌, None, length, string_bytes}
use denote.Text.{Utf8}
use denote.Shadow.{shadow}
use Rattle.std.specs.Str.{chars}
use Rattle.swc_ecma_parser_lexer.specs.declared.escape.Escape.TheVariants as escape
use Rattle.swc_ecma_parser_whole_lexer.specs.declared.old.Old.TheVariants as old
use Rattle.swc_ecma_parser_whole_lexer.specs.Old as read
use Rattle.swc_ecma_parser_whole_lexer.proofs.old.old_value_of.Given as goal

abbrev pub invariant-loop-c : goal.invariant-loop-c
invariant-loop-c l = record {
  text : shadow (Utf8 l.rest);
  same : read.old_value_of l.fn.quote (old.Plain escape.Text) None (chars l.fn.literal) ≡ string_bytes l.value ++ read.old_value_of l.fn.quote l.state l.waiting (chars l.rest);
}

abbrev pub decreases-loop-c : goal.decreases-loop-c
decreases-loop-c l = length l.rest
