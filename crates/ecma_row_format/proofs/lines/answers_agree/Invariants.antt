use denote.Text.{Utf8}
use denote.Shadow.{shadow}
use Rattle.ecma_row_format.proofs.lines.answers_agree.Given as goal

abbrev pub invariant-loop-answer : goal.invariant-loop-answer
invariant-loop-answer l = shadow (Utf8 l.left)
