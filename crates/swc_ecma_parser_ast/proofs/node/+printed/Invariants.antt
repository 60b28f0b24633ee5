use Rattle.std.proofs.Common.{◌≤◌}
use Rattle.swc_ecma_parser_model.specs.Size.{tree_size}
use Rattle.swc_ecma_parser_ast.proofs.node.+printed.Given as goal

-- what is left of a chain is a part of it
abbrev pub invariant-NodeDebug::fmt-loop-rest : goal.invariant-NodeDebug::fmt-loop-rest
invariant-NodeDebug::fmt-loop-rest g l = tree_size l.node.tree ≤ tree_size l.fn.self.tree

abbrev pub decreases-NodeDebug::fmt-loop-rest : goal.decreases-NodeDebug::fmt-loop-rest
decreases-NodeDebug::fmt-loop-rest g l = tree_size l.node.tree
