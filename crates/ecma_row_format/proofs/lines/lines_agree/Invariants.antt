use denote.Text.{Utf8}
use denote.Shadow.{shadow}
use Rattle.ecma_row_format.proofs.lines.lines_agree.Given as goal

abbrev pub invariant-loop-line : goal.invariant-loop-line
invariant-loop-line l = shadow (Utf8 l.left)
