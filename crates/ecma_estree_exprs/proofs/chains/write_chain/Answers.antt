-- What each step has written or has laid upon the stack, one behind another.
use Rattle.std.proofs.Common.{codes, ap, ◌++◌, ◌∙◌}
use Rattle.ecma_estree_exprs.proofs.Steps.{after, from, under, where_ok}
use Rattle.ecma_estree_writer.specs.Parts.{node, key, end}
use Rattle.ecma_estree_writer.specs.Estree.{json, link}
use Rattle.swc_ecma_parser_ast.specs.View.{view_opt_chain_expr}
use Rattle.ecma_estree_exprs.proofs.chains.write_chain.Goals as goal

pub returns : goal.returns
returns c =
    let t = c.args.w.now.source in
    let p = c.args.w.now.pending in
    let x = c.args.x.now in
    let e1 = c.in_ok-open.ensures in
    let e2 = c.in_ok-key.ensures in
    let e3 = c.in_ok-push.ensures in
    let s2 = e2.0 ∙ e1.0 in
    let s3 = e3.0 ∙ s2 in
    where_ok c.write_link.result c.write_link.ensures (λ h.
    let x1 = node t (codes "ChainExpression") x.span in
    let x2 = key (codes "expression") in
    let x3 = json t link (view_opt_chain_expr x) in
    let q3 = e3.2 ∙ ap (λ z. end ++ z) (e2.2 ∙ e1.2) in
    let z3 = under c.push.new.self.written x3 end p (simp s3 at h.1) q3 in
    let y2 = x3 ++ end in
    let z2 = from (y2 ++ p) z3 e3.1 in
    let z1 = after y2 p c.open.new.self.written x2 z2 e2.1 in
    (h.0 ∙ s3, after (x2 ++ y2) p c.args.w.now.written x1 z1 e1.1))
