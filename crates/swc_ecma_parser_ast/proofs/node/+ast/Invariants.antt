use Rattle.std.proofs.Common.{◌≡◌, ◌+◌, ◌*◌, ◌≤◌, max}
use Rattle.swc_ecma_parser_model.specs.Held.{same_held}
use Rattle.swc_ecma_parser_model.specs.Size.{tree_size}
use Rattle.swc_ecma_parser_ast.specs.declared.node.Node.TheDeep.{deep-Any}
use Rattle.swc_ecma_parser_ast.proofs.node.+ast.Given as goal

abbrev pub decreases-AnyPartialEq::eq : goal.decreases-AnyPartialEq::eq
decreases-AnyPartialEq::eq l = 2 * max (deep-Any l.self.now) (deep-Any l.other.now) + 1

abbrev pub decreases-are_alike_links : goal.decreases-are_alike_links
decreases-are_alike_links l = 2 * max (deep-Any l.a.now) (deep-Any l.b.now) + 1

-- the wholes are alike where what is left of them is, and that is no larger
abbrev pub invariant-NodePartialEq::eq-loop-left_rest : goal.invariant-NodePartialEq::eq-loop-left_rest
invariant-NodePartialEq::eq-loop-left_rest l = record {
  alike : same_held l.left l.right ≡ same_held l.fn.self l.fn.other;
  in_left : tree_size l.left.tree ≤ tree_size l.fn.self.tree;
  in_right : tree_size l.right.tree ≤ tree_size l.fn.other.tree;
}

abbrev pub decreases-NodePartialEq::eq-loop-left_rest : goal.decreases-NodePartialEq::eq-loop-left_rest
decreases-NodePartialEq::eq-loop-left_rest l = tree_size l.left.tree
