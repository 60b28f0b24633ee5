-- What each step has written or has laid upon the stack, one behind another.
use Rattle.std.proofs.Common.{append_assoc, map, ◌∙◌}
use Rattle.ecma_estree_exprs.proofs.AsExpr.{linked_call_of_expr}
use Rattle.ecma_estree_exprs.proofs.Steps.{where_ok}
use Rattle.swc_ecma_parser_ast.specs.View.{view_expr_or_spread}
use Rattle.swc_ecma_parser_model.specs.Tree.{listed}
use Rattle.ecma_estree_exprs.proofs.chains.write_linked_call.Goals as goal

pub returns : goal.returns
returns c =
    where_ok c.push-7.result c.push-7.ensures (λ h.
    let x = c.args.x.now in
    let whole = linked_call_of_expr c.args.w.now.source x.span c.args.optional x.callee.node.tree (listed (map view_expr_or_spread x.args.items)) in
    let e1 = c.in_ok-open.ensures in
    let e2 = c.in_ok-key.ensures in
    let e3 = c.in_ok-push.ensures in
    let e4 = c.in_ok-push-2.ensures in
    let e5 = c.in_ok-push-3.ensures in
    let e6 = c.in_ok-push-4.ensures in
    let e7 = c.in_ok-push-5.ensures in
    let e8 = c.in_ok-push-6.ensures in
    let s2 = e2.0 ∙ e1.0 in
    let s3 = e3.0 ∙ s2 in
    let s4 = e4.0 ∙ s3 in
    let s5 = e5.0 ∙ s4 in
    let s6 = e6.0 ∙ s5 in
    let s7 = e7.0 ∙ s6 in
    let s8 = e8.0 ∙ s7 in (
      h.0 ∙ s8,
      rw whole (simp (h.1 ∙ e8.1 ∙ e7.1 ∙ e6.1 ∙ e5.1 ∙ e4.1 ∙ e3.1, e2.1, e1.1, (simp s8 at h.2), e8.2, e7.2, (simp s5 at e6.2), e5.2, e4.2, e3.2, e2.2 ∙ e1.2, c.as_slice.ensures.value, append_assoc)),
    ))
