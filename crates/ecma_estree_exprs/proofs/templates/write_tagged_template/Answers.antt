-- What each step has written or has laid upon the stack, one behind another.
use Rattle.std.proofs.Common.{codes, ◌++◌, ap, ◌∙◌}
use Rattle.ecma_estree_exprs.proofs.Steps.{after, both, ground, onto, where_ok}
use Rattle.ecma_estree_writer.specs.Parts.{node, key, end}
use Rattle.ecma_estree_writer.specs.Estree.{json, plain}
use Rattle.swc_ecma_parser_ast.specs.View.{view_tpl}
use Rattle.ecma_estree_exprs.proofs.templates.write_tagged_template.Goals as goal

pub returns : goal.returns
returns c =
    let t = c.args.w.now.source in
    let p = c.args.w.now.pending in
    let x = c.args.x.now in
    let e1 = c.in_ok-open.ensures in
    let e2 = c.in_ok-key.ensures in
    let e3 = c.in_ok-push.ensures in
    let e4 = c.in_ok-push-2.ensures in
    let e5 = c.in_ok-push-3.ensures in
    let s2 = e2.0 ∙ e1.0 in
    let s3 = e3.0 ∙ s2 in
    let s4 = e4.0 ∙ s3 in
    let s5 = e5.0 ∙ s4 in
    let x1 = node t (codes "TaggedTemplateExpression") x.span in
    let x2 = key (codes "tag") in
    let x3 = json t plain x.tag.node.tree in
    let x4 = key (codes "quasi") in
    let x5 = json t plain (view_tpl x.tpl.value) in
    let p3 = c.push.new.self.pending in
    let a5 = e4.2 ∙ ap (λ s. json s plain (view_tpl c.deref.result.now) ++ p3) s3 ∙ ap (λ y. json t plain (view_tpl y) ++ p3) c.deref.ensures in
    let q5 = onto p end x5 a5 (ground end e3.2 (e2.2 ∙ e1.2)) in
    let q4 = onto p (x5 ++ end) x4 e5.2 q5 in
    let r4 = x4 ++ (x5 ++ end) in
    where_ok c.push-4.result c.push-4.ensures (λ h.
    let q3 = onto p r4 x3 (h.2 ∙ ap (λ s. json s plain x.tag.node.tree ++ c.push-3.new.self.pending) s5) q4 in
    let r3 = x3 ++ r4 in
    let z2 = both r3 p (h.1 ∙ e5.1 ∙ e4.1 ∙ e3.1) q3 in
    let z1 = after r3 p c.open.new.self.written x2 z2 e2.1 in
    (h.0 ∙ s5, after (x2 ++ r3) p c.args.w.now.written x1 z1 e1.1))
