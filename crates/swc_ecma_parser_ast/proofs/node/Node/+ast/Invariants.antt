use Rattle.std.proofs.Common.{◌≤◌}
use Rattle.swc_ecma_parser_model.specs.Size.{tree_size}
use Rattle.swc_ecma_parser_ast.proofs.node.Node.+ast.Given as goal

abbrev pub decreases-drop : goal.decreases-drop
decreases-drop l = goal.size-drop l

-- what is left of a chain is a part of it
abbrev pub invariant-loop-expr : goal.invariant-loop-expr
invariant-loop-expr l = tree_size l.self.tree ≤ tree_size l.fn.self.tree
