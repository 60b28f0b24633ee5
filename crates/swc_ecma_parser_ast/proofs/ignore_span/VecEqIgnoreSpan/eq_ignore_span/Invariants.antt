use Rattle.std.proofs.Common.{◌≡◌, length}
use Rattle.std.specs.Cmp.Lexicographic.{pointwise}
use Rattle.std.specs.Slice.Iter.{iter_rest}
use Rattle.swc_ecma_parser_ast.proofs.ignore_span.VecEqIgnoreSpan.eq_ignore_span.Given as goal

-- the wholes are alike where what is left of them is
abbrev pub invariant-loop-a : goal.invariant-loop-a
invariant-loop-a g l = pointwise g.T.EqIgnoreSpan.like (iter_rest l.left) (iter_rest l.right) ≡ pointwise g.T.EqIgnoreSpan.like (iter_rest l.initial.left) (iter_rest l.initial.right)

abbrev pub decreases-loop-a : goal.decreases-loop-a
decreases-loop-a g l = length (iter_rest l.left)
