use Rattle.std.proofs.Common.{◌≡◌, ◌<◌, Ok, Err, length, sym, subst, ◌∙◌}
use Rattle.std.proofs.lemmas.Result.{err_from_is_err_and}
use Rattle.swc_ecma_parser_error.specs.Kind.{Fault, fault_of}
use Rattle.swc_ecma_parser_trees.specs.Parts.{quasi_of}
use Rattle.swc_ecma_parser_reader.specs.State.{State}
use Rattle.swc_ecma_parser_left_sides.specs.TemplateParts.{text_behind}
use Rattle.swc_ecma_parser_left_sides.proofs.Texts.{expression_err, text_err, went, same_rest, grown, shorter}
use Rattle.swc_ecma_parser_left_sides.proofs.templates.pieces_from.Goals as goal

pub returns-in_err-expr : goal.returns-in_err-expr
returns-in_err-expr g c =
    let p = err_from_is_err_and c.from_residual-in_err-expr.result c.from_residual-in_err-expr.ensures.1 in
    rw (p.1, p.2) (λ h. c.pieces.invariant ∙ expression_err (g.G.Readers.depth c.args.g.now) c.args.tagged c.pieces.is_last _ (g.P.Cursor.seen c.pieces.p) c.if-is_last.false _ (c.in_err-expr.ensures h))

pub returns-in_err-text : goal.returns-in_err-text
returns-in_err-text g c =
    let p = err_from_is_err_and c.from_residual-in_err-text.result c.from_residual-in_err-text.ensures.1 in
    let e : Fault × State = (fault_of c.in_err-text.field-0.0, g.P.Cursor.seen c.text_behind.new.p) in
    rw (p.1, p.2) (λ h. c.pieces.invariant ∙ text_err (g.G.Readers.depth c.args.g.now) c.args.tagged c.pieces.is_last _ (g.P.Cursor.seen c.pieces.p) c.if-is_last.false
    _ (g.P.Cursor.seen c.inside.new.p) c.in_ok-expr.ensures e (subst (λ u. text_behind c.args.tagged u ≡ Err e) c.in_ok-pushed-2.ensures.state (c.in_err-text.ensures h)))

pub pieces-preserved : goal.pieces-preserved
pieces-preserved g c =
    let n = g.G.Readers.depth c.args.g.now in
    let q = quasi_of c.in_ok-text.text in
    let u = g.P.Cursor.seen c.text_behind.new.p in
    c.pieces.invariant
    ∙ went n c.args.tagged c.pieces.is_last _ (g.P.Cursor.seen c.pieces.p) c.if-is_last.false _ (g.P.Cursor.seen c.inside.new.p) c.in_ok-expr.ensures q u
    (subst (λ t. text_behind c.args.tagged t ≡ Ok (q, u)) c.in_ok-pushed-2.ensures.state c.in_ok-text.ensures)
    ∙ same_rest n c.args.tagged _ _ _ u _ (grown g.T.Trees.expr_of _ _ _ _ _ _ c.in_ok-pushed-2.ensures.items c.in_ok-pushed-3.ensures.items) c.in_ok-pushed-3.ensures.state

pub pieces-smaller : goal.pieces-smaller
pieces-smaller g c =
    let q = quasi_of c.in_ok-text.text in
    let u = g.P.Cursor.seen c.text_behind.new.p in
    subst (λ t. length t.at.left < length (g.P.Cursor.seen c.pieces.p).at.left) (sym c.in_ok-pushed-3.ensures.state)
    (shorter (g.G.Readers.depth c.args.g.now) c.args.tagged (g.P.Cursor.seen c.pieces.p) _ (g.P.Cursor.seen c.inside.new.p) c.in_ok-expr.ensures q u
    (subst (λ t. text_behind c.args.tagged t ≡ Ok (q, u)) c.in_ok-pushed-2.ensures.state c.in_ok-text.ensures))
