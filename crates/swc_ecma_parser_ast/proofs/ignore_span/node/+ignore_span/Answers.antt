use Rattle.std.proofs.Common.{sym, map, ◌∙◌, ◌+◌, arith, rules}
use Rattle.swc_ecma_parser_ast.specs.Falls.{le_any}
use Rattle.swc_ecma_parser_ast.specs.Unspanned.{like_held, no_span}
use Rattle.swc_ecma_parser_ast.proofs.Links.{below, falls}
use Rattle.swc_ecma_parser_ast.proofs.LikeLinks.{differ, go_on}
use Rattle.swc_ecma_parser_ast.specs.declared.node.Node.TheShapes.{weighed-Any-Expr-0, weighed-Any-Pat-0, weighed-Any-Stmt-0, weighed-Any-Stmts-0}
use Rattle.swc_ecma_parser_ast.specs.declared.node.Node.TheView as node
use Rattle.swc_ecma_parser_model.specs.Tree.{trees}
use Rattle.swc_ecma_parser_ast.specs.View.{view_stmt}
use Rattle.swc_ecma_parser_ast.specs.Respanned.{alike_expr, alike_pat, alike_stmt, alike_stmts}
use Rattle.swc_ecma_parser_ast.proofs.Unlike.{expr_list, expr_pat, expr_stmt, list_expr, list_pat, list_stmt, pat_expr, pat_list, pat_stmt, stmt_expr, stmt_list, stmt_pat}
use Rattle.swc_ecma_parser_ast.proofs.Measured.{doubled}
use Rattle.swc_ecma_parser_ast.proofs.ignore_span.node.+ignore_span.Goals as goal

pub AnyEqIgnoreSpan::eq_ignore_span-are_like_exprs-requires : goal.AnyEqIgnoreSpan::eq_ignore_span-are_like_exprs-requires
AnyEqIgnoreSpan::eq_ignore_span-are_like_exprs-requires t c κs =
    let h = rw (c.in-Expr.is, c.in-Expr-other.is) at c.decreases in
    let p = doubled weighed-Any-Expr-0 (λ y. node.size y + 1) c.in-Expr.a in
    let q = doubled weighed-Any-Expr-0 (λ y. node.size y + 1) c.in-Expr-other.b in
    (((omega arith, (omega arith, tt)), tt), search rules)

pub AnyEqIgnoreSpan::eq_ignore_span-are_like_pats-requires : goal.AnyEqIgnoreSpan::eq_ignore_span-are_like_pats-requires
AnyEqIgnoreSpan::eq_ignore_span-are_like_pats-requires t c κs =
    let h = rw (c.in-Pat.is, c.in-Pat-other-2.is) at c.decreases in
    let p = doubled weighed-Any-Pat-0 (λ y. node.size y + 1) c.in-Pat.a in
    let q = doubled weighed-Any-Pat-0 (λ y. node.size y + 1) c.in-Pat-other-2.b in
    (((omega arith, (omega arith, tt)), tt), search rules)

pub AnyEqIgnoreSpan::eq_ignore_span-are_like_boxed_stmts-requires : goal.AnyEqIgnoreSpan::eq_ignore_span-are_like_boxed_stmts-requires
AnyEqIgnoreSpan::eq_ignore_span-are_like_boxed_stmts-requires t c κs =
    let h = rw (c.in-Stmt.is, c.in-Stmt-other-3.is) at c.decreases in
    let p = doubled weighed-Any-Stmt-0 (λ y. node.size y + 1) c.in-Stmt.a in
    let q = doubled weighed-Any-Stmt-0 (λ y. node.size y + 1) c.in-Stmt-other-3.b in
    (((omega arith, (omega arith, tt)), tt), search rules)

pub AnyEqIgnoreSpan::eq_ignore_span-are_like_stmts-requires : goal.AnyEqIgnoreSpan::eq_ignore_span-are_like_stmts-requires
AnyEqIgnoreSpan::eq_ignore_span-are_like_stmts-requires t c κs =
    let h = rw (c.in-Stmts.is, c.in-Stmts-other-4.is) at c.decreases in
    let p = doubled weighed-Any-Stmts-0 (λ y. node.size y + 1) c.in-Stmts.a in
    let q = doubled weighed-Any-Stmts-0 (λ y. node.size y + 1) c.in-Stmts-other-4.b in
    (((omega arith, (omega arith, tt)), tt), search rules)

pub AnyEqIgnoreSpan::eq_ignore_span-returns-in-Expr-other : goal.AnyEqIgnoreSpan::eq_ignore_span-returns-in-Expr-other
AnyEqIgnoreSpan::eq_ignore_span-returns-in-Expr-other t c =
    rw (c.in-Expr.is, c.in-Expr-other.is) (c.are_like_exprs.ensures ∙ alike_expr (λ _. no_span) c.in-Expr.a.value c.in-Expr-other.b.value)

pub AnyEqIgnoreSpan::eq_ignore_span-returns-in-Pat-other-2 : goal.AnyEqIgnoreSpan::eq_ignore_span-returns-in-Pat-other-2
AnyEqIgnoreSpan::eq_ignore_span-returns-in-Pat-other-2 t c =
    rw (c.in-Pat.is, c.in-Pat-other-2.is) (c.are_like_pats.ensures ∙ alike_pat (λ _. no_span) c.in-Pat.a.value c.in-Pat-other-2.b.value)

pub AnyEqIgnoreSpan::eq_ignore_span-returns-in-Stmt-other-3 : goal.AnyEqIgnoreSpan::eq_ignore_span-returns-in-Stmt-other-3
AnyEqIgnoreSpan::eq_ignore_span-returns-in-Stmt-other-3 t c =
    rw (c.in-Stmt.is, c.in-Stmt-other-3.is) (c.are_like_boxed_stmts.ensures ∙ alike_stmt (λ _. no_span) c.in-Stmt.a.value c.in-Stmt-other-3.b.value)

pub AnyEqIgnoreSpan::eq_ignore_span-returns-in-Stmts-other-4 : goal.AnyEqIgnoreSpan::eq_ignore_span-returns-in-Stmts-other-4
AnyEqIgnoreSpan::eq_ignore_span-returns-in-Stmts-other-4 t c =
    rw (c.in-Stmts.is, c.in-Stmts-other-4.is) (c.are_like_stmts.ensures ∙ alike_stmts (λ _. no_span) c.in-Stmts.a.value.items c.in-Stmts-other-4.b.value.items)

pub AnyEqIgnoreSpan::eq_ignore_span-returns-in-Pat-other : goal.AnyEqIgnoreSpan::eq_ignore_span-returns-in-Pat-other
AnyEqIgnoreSpan::eq_ignore_span-returns-in-Pat-other t c =
    rw (c.in-Expr.is, c.in-Pat-other.is) (sym (expr_pat c.in-Expr.a.value c.in-Pat-other.field-0.value))

pub AnyEqIgnoreSpan::eq_ignore_span-returns-in-Stmt-other : goal.AnyEqIgnoreSpan::eq_ignore_span-returns-in-Stmt-other
AnyEqIgnoreSpan::eq_ignore_span-returns-in-Stmt-other t c =
    rw (c.in-Expr.is, c.in-Stmt-other.is) (sym (expr_stmt c.in-Expr.a.value c.in-Stmt-other.field-0.value))

pub AnyEqIgnoreSpan::eq_ignore_span-returns-in-Stmts-other : goal.AnyEqIgnoreSpan::eq_ignore_span-returns-in-Stmts-other
AnyEqIgnoreSpan::eq_ignore_span-returns-in-Stmts-other t c =
    rw (c.in-Expr.is, c.in-Stmts-other.is) (sym (expr_list c.in-Expr.a.value (trees (map view_stmt c.in-Stmts-other.field-0.value.items))))

pub AnyEqIgnoreSpan::eq_ignore_span-returns-in-Expr-other-2 : goal.AnyEqIgnoreSpan::eq_ignore_span-returns-in-Expr-other-2
AnyEqIgnoreSpan::eq_ignore_span-returns-in-Expr-other-2 t c =
    rw (c.in-Pat.is, c.in-Expr-other-2.is) (sym (pat_expr c.in-Pat.a.value c.in-Expr-other-2.field-0.value))

pub AnyEqIgnoreSpan::eq_ignore_span-returns-in-Stmt-other-2 : goal.AnyEqIgnoreSpan::eq_ignore_span-returns-in-Stmt-other-2
AnyEqIgnoreSpan::eq_ignore_span-returns-in-Stmt-other-2 t c =
    rw (c.in-Pat.is, c.in-Stmt-other-2.is) (sym (pat_stmt c.in-Pat.a.value c.in-Stmt-other-2.field-0.value))

pub AnyEqIgnoreSpan::eq_ignore_span-returns-in-Stmts-other-2 : goal.AnyEqIgnoreSpan::eq_ignore_span-returns-in-Stmts-other-2
AnyEqIgnoreSpan::eq_ignore_span-returns-in-Stmts-other-2 t c =
    rw (c.in-Pat.is, c.in-Stmts-other-2.is) (sym (pat_list c.in-Pat.a.value (trees (map view_stmt c.in-Stmts-other-2.field-0.value.items))))

pub AnyEqIgnoreSpan::eq_ignore_span-returns-in-Expr-other-3 : goal.AnyEqIgnoreSpan::eq_ignore_span-returns-in-Expr-other-3
AnyEqIgnoreSpan::eq_ignore_span-returns-in-Expr-other-3 t c =
    rw (c.in-Stmt.is, c.in-Expr-other-3.is) (sym (stmt_expr c.in-Stmt.a.value c.in-Expr-other-3.field-0.value))

pub AnyEqIgnoreSpan::eq_ignore_span-returns-in-Pat-other-3 : goal.AnyEqIgnoreSpan::eq_ignore_span-returns-in-Pat-other-3
AnyEqIgnoreSpan::eq_ignore_span-returns-in-Pat-other-3 t c =
    rw (c.in-Stmt.is, c.in-Pat-other-3.is) (sym (stmt_pat c.in-Stmt.a.value c.in-Pat-other-3.field-0.value))

pub AnyEqIgnoreSpan::eq_ignore_span-returns-in-Stmts-other-3 : goal.AnyEqIgnoreSpan::eq_ignore_span-returns-in-Stmts-other-3
AnyEqIgnoreSpan::eq_ignore_span-returns-in-Stmts-other-3 t c =
    rw (c.in-Stmt.is, c.in-Stmts-other-3.is) (sym (stmt_list c.in-Stmt.a.value (trees (map view_stmt c.in-Stmts-other-3.field-0.value.items))))

pub AnyEqIgnoreSpan::eq_ignore_span-returns-in-Expr-other-4 : goal.AnyEqIgnoreSpan::eq_ignore_span-returns-in-Expr-other-4
AnyEqIgnoreSpan::eq_ignore_span-returns-in-Expr-other-4 t c =
    rw (c.in-Stmts.is, c.in-Expr-other-4.is) (sym (list_expr (trees (map view_stmt c.in-Stmts.a.value.items)) c.in-Expr-other-4.field-0.value))

pub AnyEqIgnoreSpan::eq_ignore_span-returns-in-Pat-other-4 : goal.AnyEqIgnoreSpan::eq_ignore_span-returns-in-Pat-other-4
AnyEqIgnoreSpan::eq_ignore_span-returns-in-Pat-other-4 t c =
    rw (c.in-Stmts.is, c.in-Pat-other-4.is) (sym (list_pat (trees (map view_stmt c.in-Stmts.a.value.items)) c.in-Pat-other-4.field-0.value))

pub AnyEqIgnoreSpan::eq_ignore_span-returns-in-Stmt-other-4 : goal.AnyEqIgnoreSpan::eq_ignore_span-returns-in-Stmt-other-4
AnyEqIgnoreSpan::eq_ignore_span-returns-in-Stmt-other-4 t c =
    rw (c.in-Stmts.is, c.in-Stmt-other-4.is) (sym (list_stmt (trees (map view_stmt c.in-Stmts.a.value.items)) c.in-Stmt-other-4.field-0.value))

pub are_like_links-are_like_linked_exprs-requires : goal.are_like_links-are_like_linked_exprs-requires
are_like_links-are_like_linked_exprs-requires t c κs =
    let h = rw (c.in-Expr.is, c.in-Expr-b.is) at c.decreases in
    let p = doubled weighed-Any-Expr-0 (λ y. node.size y + 1) c.in-Expr.a in
    let q = doubled weighed-Any-Expr-0 (λ y. node.size y + 1) c.in-Expr-b.b in
    (((omega arith, (omega arith, tt)), tt), search rules)

pub are_like_links-are_like_linked_stmts-requires : goal.are_like_links-are_like_linked_stmts-requires
are_like_links-are_like_linked_stmts-requires t c κs =
    let h = rw (c.in-Stmt.is, c.in-Stmt-b.is) at c.decreases in
    let p = doubled weighed-Any-Stmt-0 (λ y. node.size y + 1) c.in-Stmt.a in
    let q = doubled weighed-Any-Stmt-0 (λ y. node.size y + 1) c.in-Stmt-b.b in
    (((omega arith, (omega arith, tt)), tt), search rules)

pub NodeEqIgnoreSpan::eq_ignore_span-are_like_links-requires : goal.NodeEqIgnoreSpan::eq_ignore_span-are_like_links-requires
NodeEqIgnoreSpan::eq_ignore_span-are_like_links-requires t c =
    let b = below c.left.inside.inner c.right.inside.inner _ _ c.left.view_is c.right.view_is in
    (omega (arith, b, c.loop-left_rest.invariant.in_left, c.loop-left_rest.invariant.in_right, c.decreases), tt)

pub NodeEqIgnoreSpan::eq_ignore_span-returns-then-not-are_like_links : goal.NodeEqIgnoreSpan::eq_ignore_span-returns-then-not-are_like_links
NodeEqIgnoreSpan::eq_ignore_span-returns-then-not-are_like_links t c =
    differ c.left.inside.inner c.right.inside.inner _ _ _ _ c.left.view_is c.right.view_is c.in-Some.ensures c.in-Some-rest.ensures
    (sym c.are_like_links.ensures ∙ c.if-not-are_like_links.true)
    ∙ c.loop-left_rest.invariant.alike

pub NodeEqIgnoreSpan::eq_ignore_span-loop-left_rest-preserved : goal.NodeEqIgnoreSpan::eq_ignore_span-loop-left_rest-preserved
NodeEqIgnoreSpan::eq_ignore_span-loop-left_rest-preserved t c =
    let l = falls c.left.inside.inner _ _ c.left.view_is c.in-Some.ensures in
    let r = falls c.right.inside.inner _ _ c.right.view_is c.in-Some-rest.ensures in
    record {
      alike =
          go_on c.left.inside.inner c.right.inside.inner _ _ _ _ c.left.view_is c.right.view_is c.in-Some.ensures c.in-Some-rest.ensures
          (sym c.are_like_links.ensures ∙ c.if-not-are_like_links.false)
          ∙ c.loop-left_rest.invariant.alike;
      in_left = omega (arith, l, c.loop-left_rest.invariant.in_left);
      in_right = omega (arith, r, c.loop-left_rest.invariant.in_right);
    }

pub NodeEqIgnoreSpan::eq_ignore_span-loop-left_rest-smaller : goal.NodeEqIgnoreSpan::eq_ignore_span-loop-left_rest-smaller
NodeEqIgnoreSpan::eq_ignore_span-loop-left_rest-smaller t c = falls c.left.inside.inner _ _ c.left.view_is c.in-Some.ensures

pub NodeEqIgnoreSpan::eq_ignore_span-eq_ignore_span-requires : goal.NodeEqIgnoreSpan::eq_ignore_span-eq_ignore_span-requires
NodeEqIgnoreSpan::eq_ignore_span-eq_ignore_span-requires t c =
    let b = below c.left.inside.inner c.right-2.inside.inner _ _ c.left.view_is c.right-2.view_is in
    (omega (arith, b, c.loop-left_rest.invariant.in_left, c.loop-left_rest.invariant.in_right, c.decreases), tt)

pub NodeEqIgnoreSpan::eq_ignore_span-returns : goal.NodeEqIgnoreSpan::eq_ignore_span-returns
NodeEqIgnoreSpan::eq_ignore_span-returns t c = c.eq_ignore_span.ensures ∙ (λ i. like_held (c.left.view_is i) (c.right-2.view_is i)) ∙ c.loop-left_rest.invariant.alike
