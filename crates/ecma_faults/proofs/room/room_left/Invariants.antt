-- The room that is left now, and behind the characters that are left.
use Rattle.std.proofs.Common.{◌≡◌, ◌≤◌, chars, drop, length}
use Rattle.ecma_faults.specs.Excerpt.{room_left}
use Rattle.ecma_faults.proofs.room.room_left.Given as goal

abbrev pub invariant-loop-c : goal.invariant-loop-c
invariant-loop-c l = record {
  left : room_left l.left (drop (length l.yielded) (chars l.text)) ≡ room_left l.initial.left (chars l.text);
  bound : l.left ≤ l.initial.left;
}
