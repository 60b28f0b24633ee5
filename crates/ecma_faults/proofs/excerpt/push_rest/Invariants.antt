-- What is written, and what is to be written of the characters that are left.
use Rattle.std.proofs.Common.{◌≡◌, ◌++◌, chars, drop, length}
use Rattle.ecma_faults.specs.Excerpt.{line_rest}
use Rattle.ecma_faults.proofs.excerpt.push_rest.Given as goal

abbrev pub invariant-loop-c : goal.invariant-loop-c
invariant-loop-c l =
    l.out.items ++ line_rest l.left (drop (length l.yielded) (chars l.text)) ≡ l.initial.out.items ++ line_rest l.initial.left (chars l.text)
