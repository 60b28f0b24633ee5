use Rattle.std.proofs.Common.{rules, ◌+◌, arith}
use Rattle.swc_ecma_parser_ast.specs.declared.node.Node.TheShapes.{weighed-Any-Expr-0, weighed-Any-Stmt-0}
use Rattle.swc_ecma_parser_ast.specs.declared.node.Node.TheView as node
use Rattle.swc_ecma_parser_ast.proofs.Links.{falls}
use Rattle.swc_ecma_parser_ast.proofs.Measured.{doubled}
use Rattle.swc_ecma_parser_ast.proofs.node.+printed.Goals as goal

pub add_link-add_expr_link-requires : goal.add_link-add_expr_link-requires
add_link-add_expr_link-requires g t c κs q =
    let h = rw c.in-Expr.is at c.decreases in
    let p = doubled weighed-Any-Expr-0 (λ y. node.size y + 1) c.in-Expr.x in
    (((omega arith, tt), tt), search rules)

pub add_link-add_stmt_link-requires : goal.add_link-add_stmt_link-requires
add_link-add_stmt_link-requires g t c κs q =
    let h = rw c.in-Stmt.is at c.decreases in
    let p = doubled weighed-Any-Stmt-0 (λ y. node.size y + 1) c.in-Stmt.x in
    (((omega arith, tt), tt), search rules)

pub NodeDebug::fmt-loop-rest-preserved : goal.NodeDebug::fmt-loop-rest-preserved
NodeDebug::fmt-loop-rest-preserved g t c =
    let l = falls c.node.inside.inner _ _ c.node.view_is c.in-Some.ensures in
    omega (arith, l, c.loop-rest.invariant)

pub NodeDebug::fmt-loop-rest-smaller : goal.NodeDebug::fmt-loop-rest-smaller
NodeDebug::fmt-loop-rest-smaller g t c = falls c.node.inside.inner _ _ c.node.view_is c.in-Some.ensures
