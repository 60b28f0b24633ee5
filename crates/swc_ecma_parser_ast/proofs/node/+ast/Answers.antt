use Rattle.std.proofs.Common.{sym, map, ◌∙◌, ◌+◌, arith, rules}
use Rattle.swc_ecma_parser_ast.specs.Falls.{le_any}
use Rattle.swc_ecma_parser_model.specs.Held.{same_held}
use Rattle.swc_ecma_parser_ast.proofs.Links.{below, differ, falls, go_on}
use Rattle.swc_ecma_parser_ast.specs.declared.node.Node.TheShapes.{weighed-Any-Expr-0, weighed-Any-Pat-0, weighed-Any-Stmt-0, weighed-Any-Stmts-0}
use Rattle.swc_ecma_parser_ast.specs.declared.node.Node.TheView as node
use Rattle.swc_ecma_parser_model.specs.Tree.{trees}
use Rattle.swc_ecma_parser_ast.specs.View.{view_stmt}
use Rattle.swc_ecma_parser_ast.proofs.Alike.{alike_expr, alike_pat, alike_stmt, alike_stmts}
use Rattle.swc_ecma_parser_ast.specs.Apart.{expr_list, expr_pat, expr_stmt, list_expr, list_pat, list_stmt, pat_expr, pat_list, pat_stmt, stmt_expr, stmt_list, stmt_pat}
use Rattle.swc_ecma_parser_ast.proofs.Measured.{doubled}
use Rattle.swc_ecma_parser_ast.proofs.node.+ast.Goals as goal

pub AnyPartialEq::eq-equal_exprs-requires : goal.AnyPartialEq::eq-equal_exprs-requires
AnyPartialEq::eq-equal_exprs-requires t c κs =
    let h = rw (c.in-Expr.is, c.in-Expr-other.is) at c.decreases in
    let p = doubled weighed-Any-Expr-0 (λ y. node.size y + 1) c.in-Expr.a in
    let q = doubled weighed-Any-Expr-0 (λ y. node.size y + 1) c.in-Expr-other.b in
    (((omega arith, (omega arith, tt)), tt), search rules)

pub AnyPartialEq::eq-equal_pats-requires : goal.AnyPartialEq::eq-equal_pats-requires
AnyPartialEq::eq-equal_pats-requires t c κs =
    let h = rw (c.in-Pat.is, c.in-Pat-other-2.is) at c.decreases in
    let p = doubled weighed-Any-Pat-0 (λ y. node.size y + 1) c.in-Pat.a in
    let q = doubled weighed-Any-Pat-0 (λ y. node.size y + 1) c.in-Pat-other-2.b in
    (((omega arith, (omega arith, tt)), tt), search rules)

pub AnyPartialEq::eq-equal_boxed_stmts-requires : goal.AnyPartialEq::eq-equal_boxed_stmts-requires
AnyPartialEq::eq-equal_boxed_stmts-requires t c κs =
    let h = rw (c.in-Stmt.is, c.in-Stmt-other-3.is) at c.decreases in
    let p = doubled weighed-Any-Stmt-0 (λ y. node.size y + 1) c.in-Stmt.a in
    let q = doubled weighed-Any-Stmt-0 (λ y. node.size y + 1) c.in-Stmt-other-3.b in
    (((omega arith, (omega arith, tt)), tt), search rules)

pub AnyPartialEq::eq-equal_stmts-requires : goal.AnyPartialEq::eq-equal_stmts-requires
AnyPartialEq::eq-equal_stmts-requires t c κs =
    let h = rw (c.in-Stmts.is, c.in-Stmts-other-4.is) at c.decreases in
    let p = doubled weighed-Any-Stmts-0 (λ y. node.size y + 1) c.in-Stmts.a in
    let q = doubled weighed-Any-Stmts-0 (λ y. node.size y + 1) c.in-Stmts-other-4.b in
    (((omega arith, (omega arith, tt)), tt), search rules)

pub AnyPartialEq::eq-returns-in-Expr-other : goal.AnyPartialEq::eq-returns-in-Expr-other
AnyPartialEq::eq-returns-in-Expr-other t c =
    rw (c.in-Expr.is, c.in-Expr-other.is) (c.equal_exprs.ensures ∙ alike_expr c.in-Expr.a.value c.in-Expr-other.b.value)

pub AnyPartialEq::eq-returns-in-Pat-other-2 : goal.AnyPartialEq::eq-returns-in-Pat-other-2
AnyPartialEq::eq-returns-in-Pat-other-2 t c =
    rw (c.in-Pat.is, c.in-Pat-other-2.is) (c.equal_pats.ensures ∙ alike_pat c.in-Pat.a.value c.in-Pat-other-2.b.value)

pub AnyPartialEq::eq-returns-in-Stmt-other-3 : goal.AnyPartialEq::eq-returns-in-Stmt-other-3
AnyPartialEq::eq-returns-in-Stmt-other-3 t c =
    rw (c.in-Stmt.is, c.in-Stmt-other-3.is) (c.equal_boxed_stmts.ensures ∙ alike_stmt c.in-Stmt.a.value c.in-Stmt-other-3.b.value)

pub AnyPartialEq::eq-returns-in-Stmts-other-4 : goal.AnyPartialEq::eq-returns-in-Stmts-other-4
AnyPartialEq::eq-returns-in-Stmts-other-4 t c =
    rw (c.in-Stmts.is, c.in-Stmts-other-4.is) (c.equal_stmts.ensures ∙ alike_stmts c.in-Stmts.a.value.items c.in-Stmts-other-4.b.value.items)

pub AnyPartialEq::eq-returns-in-Pat-other : goal.AnyPartialEq::eq-returns-in-Pat-other
AnyPartialEq::eq-returns-in-Pat-other t c =
    rw (c.in-Expr.is, c.in-Pat-other.is) (sym (expr_pat c.in-Expr.a.value c.in-Pat-other.field-0.value))

pub AnyPartialEq::eq-returns-in-Stmt-other : goal.AnyPartialEq::eq-returns-in-Stmt-other
AnyPartialEq::eq-returns-in-Stmt-other t c =
    rw (c.in-Expr.is, c.in-Stmt-other.is) (sym (expr_stmt c.in-Expr.a.value c.in-Stmt-other.field-0.value))

pub AnyPartialEq::eq-returns-in-Stmts-other : goal.AnyPartialEq::eq-returns-in-Stmts-other
AnyPartialEq::eq-returns-in-Stmts-other t c =
    rw (c.in-Expr.is, c.in-Stmts-other.is) (sym (expr_list c.in-Expr.a.value (trees (map view_stmt c.in-Stmts-other.field-0.value.items))))

pub AnyPartialEq::eq-returns-in-Expr-other-2 : goal.AnyPartialEq::eq-returns-in-Expr-other-2
AnyPartialEq::eq-returns-in-Expr-other-2 t c =
    rw (c.in-Pat.is, c.in-Expr-other-2.is) (sym (pat_expr c.in-Pat.a.value c.in-Expr-other-2.field-0.value))

pub AnyPartialEq::eq-returns-in-Stmt-other-2 : goal.AnyPartialEq::eq-returns-in-Stmt-other-2
AnyPartialEq::eq-returns-in-Stmt-other-2 t c =
    rw (c.in-Pat.is, c.in-Stmt-other-2.is) (sym (pat_stmt c.in-Pat.a.value c.in-Stmt-other-2.field-0.value))

pub AnyPartialEq::eq-returns-in-Stmts-other-2 : goal.AnyPartialEq::eq-returns-in-Stmts-other-2
AnyPartialEq::eq-returns-in-Stmts-other-2 t c =
    rw (c.in-Pat.is, c.in-Stmts-other-2.is) (sym (pat_list c.in-Pat.a.value (trees (map view_stmt c.in-Stmts-other-2.field-0.value.items))))

pub AnyPartialEq::eq-returns-in-Expr-other-3 : goal.AnyPartialEq::eq-returns-in-Expr-other-3
AnyPartialEq::eq-returns-in-Expr-other-3 t c =
    rw (c.in-Stmt.is, c.in-Expr-other-3.is) (sym (stmt_expr c.in-Stmt.a.value c.in-Expr-other-3.field-0.value))

pub AnyPartialEq::eq-returns-in-Pat-other-3 : goal.AnyPartialEq::eq-returns-in-Pat-other-3
AnyPartialEq::eq-returns-in-Pat-other-3 t c =
    rw (c.in-Stmt.is, c.in-Pat-other-3.is) (sym (stmt_pat c.in-Stmt.a.value c.in-Pat-other-3.field-0.value))

pub AnyPartialEq::eq-returns-in-Stmts-other-3 : goal.AnyPartialEq::eq-returns-in-Stmts-other-3
AnyPartialEq::eq-returns-in-Stmts-other-3 t c =
    rw (c.in-Stmt.is, c.in-Stmts-other-3.is) (sym (stmt_list c.in-Stmt.a.value (trees (map view_stmt c.in-Stmts-other-3.field-0.value.items))))

pub AnyPartialEq::eq-returns-in-Expr-other-4 : goal.AnyPartialEq::eq-returns-in-Expr-other-4
AnyPartialEq::eq-returns-in-Expr-other-4 t c =
    rw (c.in-Stmts.is, c.in-Expr-other-4.is) (sym (list_expr (trees (map view_stmt c.in-Stmts.a.value.items)) c.in-Expr-other-4.field-0.value))

pub AnyPartialEq::eq-returns-in-Pat-other-4 : goal.AnyPartialEq::eq-returns-in-Pat-other-4
AnyPartialEq::eq-returns-in-Pat-other-4 t c =
    rw (c.in-Stmts.is, c.in-Pat-other-4.is) (sym (list_pat (trees (map view_stmt c.in-Stmts.a.value.items)) c.in-Pat-other-4.field-0.value))

pub AnyPartialEq::eq-returns-in-Stmt-other-4 : goal.AnyPartialEq::eq-returns-in-Stmt-other-4
AnyPartialEq::eq-returns-in-Stmt-other-4 t c =
    rw (c.in-Stmts.is, c.in-Stmt-other-4.is) (sym (list_stmt (trees (map view_stmt c.in-Stmts.a.value.items)) c.in-Stmt-other-4.field-0.value))

pub are_alike_links-are_alike_exprs-requires : goal.are_alike_links-are_alike_exprs-requires
are_alike_links-are_alike_exprs-requires t c κs =
    let h = rw (c.in-Expr.is, c.in-Expr-b.is) at c.decreases in
    let p = doubled weighed-Any-Expr-0 (λ y. node.size y + 1) c.in-Expr.a in
    let q = doubled weighed-Any-Expr-0 (λ y. node.size y + 1) c.in-Expr-b.b in
    (((omega arith, (omega arith, tt)), tt), search rules)

pub are_alike_links-are_alike_stmts-requires : goal.are_alike_links-are_alike_stmts-requires
are_alike_links-are_alike_stmts-requires t c κs =
    let h = rw (c.in-Stmt.is, c.in-Stmt-b.is) at c.decreases in
    let p = doubled weighed-Any-Stmt-0 (λ y. node.size y + 1) c.in-Stmt.a in
    let q = doubled weighed-Any-Stmt-0 (λ y. node.size y + 1) c.in-Stmt-b.b in
    (((omega arith, (omega arith, tt)), tt), search rules)

pub NodePartialEq::eq-are_alike_links-requires : goal.NodePartialEq::eq-are_alike_links-requires
NodePartialEq::eq-are_alike_links-requires t c =
    let b = below c.left.inside.inner c.right.inside.inner _ _ c.left.view_is c.right.view_is in
    (omega (arith, b, c.loop-left_rest.invariant.in_left, c.loop-left_rest.invariant.in_right, c.decreases), tt)

pub NodePartialEq::eq-returns-then-not-are_alike_links : goal.NodePartialEq::eq-returns-then-not-are_alike_links
NodePartialEq::eq-returns-then-not-are_alike_links t c =
    differ c.left.inside.inner c.right.inside.inner _ _ _ _ c.left.view_is c.right.view_is c.in-Some.ensures c.in-Some-rest.ensures
    (sym c.are_alike_links.ensures ∙ c.if-not-are_alike_links.true)
    ∙ c.loop-left_rest.invariant.alike

pub NodePartialEq::eq-loop-left_rest-preserved : goal.NodePartialEq::eq-loop-left_rest-preserved
NodePartialEq::eq-loop-left_rest-preserved t c =
    let l = falls c.left.inside.inner _ _ c.left.view_is c.in-Some.ensures in
    let r = falls c.right.inside.inner _ _ c.right.view_is c.in-Some-rest.ensures in
    record {
      alike =
          go_on c.left.inside.inner c.right.inside.inner _ _ _ _ c.left.view_is c.right.view_is c.in-Some.ensures c.in-Some-rest.ensures
          (sym c.are_alike_links.ensures ∙ c.if-not-are_alike_links.false)
          ∙ c.loop-left_rest.invariant.alike;
      in_left = omega (arith, l, c.loop-left_rest.invariant.in_left);
      in_right = omega (arith, r, c.loop-left_rest.invariant.in_right);
    }

pub NodePartialEq::eq-loop-left_rest-smaller : goal.NodePartialEq::eq-loop-left_rest-smaller
NodePartialEq::eq-loop-left_rest-smaller t c = falls c.left.inside.inner _ _ c.left.view_is c.in-Some.ensures

pub NodePartialEq::eq-eq-requires : goal.NodePartialEq::eq-eq-requires
NodePartialEq::eq-eq-requires t c =
    let b = below c.left.inside.inner c.right-2.inside.inner _ _ c.left.view_is c.right-2.view_is in
    (omega (arith, b, c.loop-left_rest.invariant.in_left, c.loop-left_rest.invariant.in_right, c.decreases), tt)

pub NodePartialEq::eq-returns : goal.NodePartialEq::eq-returns
NodePartialEq::eq-returns t c = c.eq.ensures ∙ (λ i. same_held (c.left.view_is i) (c.right-2.view_is i)) ∙ c.loop-left_rest.invariant.alike
