use Rattle.std.proofs.Common.{sym, ◌∙◌}
use Rattle.std.proofs.lemmas.Bool.{and_parts}
use Rattle.std.proofs.lemmas.Result.{err_from_is_err_and}
use Rattle.swc_ecma_parser_reader.proofs.expressions.Loops.{left_tag_err, left_chain_err, tagged_shorter, chained_shorter}
use Rattle.swc_ecma_parser_left_sides.proofs.Turns.{access_err, call_err, access_shorter, call_shorter}
use Rattle.swc_ecma_parser_left_sides.proofs.left.left_from.Goals as goal

pub returns-in_err-x : goal.returns-in_err-x
returns-in_err-x g c =
    let p = err_from_is_err_and c.from_residual.result c.from_residual.ensures.1 in
    rw (p.1, p.2) (λ h. c.left.invariant ∙ access_err (g.G.Readers.depth c.args.g.now) c.args.calls c.args.start (g.T.Trees.expr_of c.left.x) (g.P.Cursor.seen c.left.p) _
    (sym c.begins_access.ensures ∙ c.if-begins_access.true) (c.in_err-x.ensures h))

pub returns-in_err-x-2 : goal.returns-in_err-x-2
returns-in_err-x-2 g c =
    let p = err_from_is_err_and c.from_residual-in_err-x-2.result c.from_residual-in_err-x-2.ensures.1 in
    rw (p.1, p.2) (λ h. c.left.invariant ∙ call_err (g.G.Readers.depth c.args.g.now) c.args.calls c.args.start (g.T.Trees.expr_of c.left.x) (g.P.Cursor.seen c.left.p) _
    (sym c.begins_access.ensures ∙ c.if-begins_access.false) (sym c.begins_call.ensures ∙ c.if-begins_call.true) (c.in_err-x-2.ensures h))

pub returns-in_err-x-3 : goal.returns-in_err-x-3
returns-in_err-x-3 g c =
    let p = err_from_is_err_and c.from_residual-in_err-x-3.result c.from_residual-in_err-x-3.ensures.1 in
    rw (p.1, p.2) (λ h. c.left.invariant ∙ left_tag_err (g.G.Readers.depth c.args.g.now) c.args.calls c.args.start (g.T.Trees.expr_of c.left.x) (g.P.Cursor.seen c.left.p)
    (sym c.begins_access.ensures ∙ c.if-begins_access.false) (sym c.begins_call.ensures ∙ c.if-begins_call.false) _ (sym c.begins_template.ensures ∙ c.if-begins_template.true) (c.in_err-x-3.ensures h))

pub returns-in_err-x-4 : goal.returns-in_err-x-4
returns-in_err-x-4 g c =
    let p = err_from_is_err_and c.from_residual-in_err-x-4.result c.from_residual-in_err-x-4.ensures.1 in
    rw (p.1, p.2) (λ h. c.left.invariant ∙ left_chain_err (g.G.Readers.depth c.args.g.now) c.args.calls c.args.start (g.T.Trees.expr_of c.left.x) (g.P.Cursor.seen c.left.p)
    (sym c.begins_access.ensures ∙ c.if-begins_access.false) (sym c.begins_call.ensures ∙ c.if-begins_call.false) (sym c.begins_template.ensures ∙ c.if-begins_template.false)
    (sym c.begins_link.ensures ∙ c.if-begins_link.true) _ (c.in_err-x-4.ensures h))

pub left-smaller-then-begins_access : goal.left-smaller-then-begins_access
left-smaller-then-begins_access g c =
    access_shorter (g.G.Readers.depth c.args.g.now) c.args.start (g.T.Trees.expr_of c.left.x) (g.P.Cursor.seen c.left.p) _ (g.P.Cursor.seen c.accessed_on.new.p) c.in_ok-x.ensures

pub left-smaller-then-begins_call : goal.left-smaller-then-begins_call
left-smaller-then-begins_call g c = call_shorter (g.G.Readers.depth c.args.g.now) c.args.start (g.T.Trees.expr_of c.left.x) (g.P.Cursor.seen c.left.p) _ (g.P.Cursor.seen c.called_on.new.p)
    (and_parts _ _ (sym c.begins_call.ensures ∙ c.if-begins_call.true)).1 c.in_ok-x-2.ensures

pub left-smaller-then-begins_template : goal.left-smaller-then-begins_template
left-smaller-then-begins_template g c =
    tagged_shorter (g.G.Readers.depth c.args.g.now) c.args.start (g.T.Trees.expr_of c.left.x) (g.P.Cursor.seen c.left.p) _ (g.P.Cursor.seen c.tagged.new.p) c.in_ok-x-3.ensures

pub left-smaller : goal.left-smaller
left-smaller g c = chained_shorter (g.G.Readers.depth c.args.g.now) c.args.start (g.T.Trees.expr_of c.left.x) (g.P.Cursor.seen c.left.p) _ (g.P.Cursor.seen c.chained.new.p)
    (and_parts _ _ (sym c.begins_link.ensures ∙ c.if-begins_link.true)).1 c.in_ok-x-4.ensures
