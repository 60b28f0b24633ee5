-- The columns so far, and those of the characters that are left.
use Rattle.std.proofs.Common.{◌≡◌, ◌+◌, ◌≤◌, chars, drop, length}
use Rattle.ecma_faults.specs.Excerpt.{rest_columns}
use Rattle.ecma_faults.proofs.excerpt.columns_of.Given as goal

abbrev pub invariant-loop-c : goal.invariant-loop-c
invariant-loop-c l = record {
  sum : l.sum + rest_columns l.left (drop (length l.yielded) (chars l.text)) ≡ rest_columns l.initial.left (chars l.text);
  bound : l.sum + l.left ≤ 74;
}
