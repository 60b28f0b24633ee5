-- What is written, and what the characters that are left say.
use Rattle.std.proofs.Common.{◌≡◌, ◌++◌, None, length, drop, chars, IfSome}
use Rattle.ecma_estree_text.specs.Strings.{IsHigh, points, points_behind, points_text}
use Rattle.ecma_estree_text.proofs.strings.push_points.Given as goal

abbrev pub invariant-loop-c : goal.invariant-loop-c
invariant-loop-c l = record {
  high : IfSome l.waiting IsHigh;
  left : l.out.items ++ points_text l.waiting (points_behind l.quote l.state (drop (length l.yielded) (chars l.raw))) ≡ l.initial.out.items ++ points_text None (points l.raw);
}
