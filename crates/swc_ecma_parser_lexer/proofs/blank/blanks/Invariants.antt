use Rattle.std.proofs.Common.{◌≡◌, ℕ, ◌+◌, ◌-◌, ◌≤◌, length, drop}
use Rattle.std.specs.Str.{chars, IsUtf8}
use Rattle.swc_ecma_parser_lexer.specs.Collected.{comments}
use Rattle.swc_ecma_parser_lexer.specs.Tokens.{IsSkipped}
use Rattle.swc_ecma_parser_lexer.proofs.blank.blanks.Given as goal

abbrev pub invariant-loop-at : goal.invariant-loop-at
invariant-loop-at l = record {
  within : l.at ≤ length l.text;
  utf8 : IsUtf8 (drop l.at l.text);
  skipped : IsSkipped l.broken l.text l.at l.had_line_break (drop l.at l.text);
  comments : (start n : ℕ) → comments start n (chars l.text) ≡ comments start (n + l.at) (chars (drop l.at l.text));
}

abbrev pub decreases-loop-at : goal.decreases-loop-at
decreases-loop-at l = length l.text - l.at
