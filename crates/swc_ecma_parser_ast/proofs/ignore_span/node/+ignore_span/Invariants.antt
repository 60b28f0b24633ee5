use Rattle.std.proofs.Common.{◌≡◌, ◌+◌, ◌*◌, ◌≤◌, max}
use Rattle.swc_ecma_parser_ast.specs.Unspanned.{like_held}
use Rattle.swc_ecma_parser_model.specs.Size.{tree_size}
use Rattle.swc_ecma_parser_ast.specs.declared.node.Node.TheDeep.{deep-Any}
use Rattle.swc_ecma_parser_ast.proofs.ignore_span.node.+ignore_span.Given as goal

abbrev pub decreases-AnyEqIgnoreSpan::eq_ignore_span : goal.decreases-AnyEqIgnoreSpan::eq_ignore_span
decreases-AnyEqIgnoreSpan::eq_ignore_span l = 2 * max (deep-Any l.self.now) (deep-Any l.other.now) + 1

abbrev pub decreases-are_like_links : goal.decreases-are_like_links
decreases-are_like_links l = 2 * max (deep-Any l.a.now) (deep-Any l.b.now) + 1

-- the wholes are alike where what is left of them is, and that is no larger
abbrev pub invariant-NodeEqIgnoreSpan::eq_ignore_span-loop-left_rest : goal.invariant-NodeEqIgnoreSpan::eq_ignore_span-loop-left_rest
invariant-NodeEqIgnoreSpan::eq_ignore_span-loop-left_rest l = record {
  alike : like_held l.left l.right ≡ like_held l.fn.self l.fn.other;
  in_left : tree_size l.left.tree ≤ tree_size l.fn.self.tree;
  in_right : tree_size l.right.tree ≤ tree_size l.fn.other.tree;
}

abbrev pub decreases-NodeEqIgnoreSpan::eq_ignore_span-loop-left_rest : goal.decreases-NodeEqIgnoreSpan::eq_ignore_span-loop-left_rest
decreases-NodeEqIgnoreSpan::eq_ignore_span-loop-left_rest l = tree_size l.left.tree
