use Rattle.std.proofs.Common.{◌≡◌, false, Ok, Err, map, sym, ap, subst, ◌∙◌}
use Rattle.std.specs.Prelude.{IfOk}
use Rattle.std.proofs.lemmas.Result.{err_from_is_err_and}
use Rattle.swc_ecma_parser_common.specs.declared.span.Span.{Span}
use Rattle.swc_ecma_parser_error.specs.Kind.{Fault, fault_of}
use Rattle.swc_ecma_parser_model.specs.Tree as tree
use Rattle.swc_ecma_parser_model.specs.Tree.{Tree, listed, trees}
use Rattle.swc_ecma_parser_model.specs.Forms.{are_plain_params}
use Rattle.swc_ecma_parser_grammar.specs.Own.{misplaced_directive}
use Rattle.swc_ecma_parser_reader.specs.State.{State, moved}
use Rattle.swc_ecma_parser_reader.specs.Arrows as arrows
use Rattle.swc_ecma_parser_reader.specs.Reader.{told, expr, function}
use Rattle.swc_ecma_parser_arrows.specs.Arrows.{body_of}
use Rattle.swc_ecma_parser_functions.specs.Late.{late}
use Rattle.swc_ecma_parser_arrows.proofs.ArrowParts.{was_moved, arrow_err, arrow_found}
use Rattle.swc_ecma_parser_functions.proofs.Parts.{told_late, made_gives}
use Rattle.swc_ecma_parser_arrows.proofs.arrows.arrow_from.Goals as goal

pub returns-in_err-misdirected : goal.returns-in_err-misdirected
returns-in_err-misdirected g c =
    let q = err_from_is_err_and c.from_residual-in_err-misdirected.result c.from_residual-in_err-misdirected.ensures.1 in
    let s = g.P.Cursor.seen c.args.p.now in
    let m = g.P.Cursor.seen c.skip.new.self in
    let u = g.P.Cursor.seen c.arrow_body.new.p in
    let ps = map g.T.Trees.pat_of c.args.params.items in
    let body = body_of g.T.BuildsBlock.block_of g.T.Trees.expr_of c.in_ok-body.body in
    let e : Fault × State = (fault_of c.in_err-misdirected.field-0.0, g.P.Cursor.seen c.misdirected.new.p) in
    let skipped : m ≡ moved s = was_moved s m c.in_ok-skip.field-0 c.in_ok-skip.ensures in
    let plain : c.are_plain_patterns-is_plain.result ≡ are_plain_params (trees ps) = c.are_plain_patterns-is_plain.ensures ∙ ap (λ xs. are_plain_params (trees (map g.T.Trees.pat_of xs))) c.deref.ensures.value in
    let directs : misplaced_directive false body ≡ late c.strict_directive.result = c.in_ok-body.ensures.directive ∙ ap late (sym c.strict_directive.ensures) in
    rw (q.1, q.2) (λ h. arrow_err c.args.is_async (g.G.Readers.depth c.args.g.now) c.args.start ps s m u body (sym c.had_line_break.ensures ∙ c.if-had_line_break.false) skipped c.in_ok-body.ensures.gives e
    (subst (λ b. told (misplaced_directive b body) u ≡ Err e) plain
    (told_late (λ o. o ≡ Err e) c.are_plain_patterns-is_plain.result body c.strict_directive.result u directs
    (λ b. c.in_err-misdirected.ensures.plain b h) (λ b. c.in_err-misdirected.ensures.late b h))))

pub returns : goal.returns
returns g c =
    let s = g.P.Cursor.seen c.args.p.now in
    let m = g.P.Cursor.seen c.skip.new.self in
    let u = g.P.Cursor.seen c.arrow_body.new.p in
    let v = g.P.Cursor.seen c.misdirected.new.p in
    let ps = map g.T.Trees.pat_of c.args.params.items in
    let body = body_of g.T.BuildsBlock.block_of g.T.Trees.expr_of c.in_ok-body.body in
    let skipped : m ≡ moved s = was_moved s m c.in_ok-skip.field-0 c.in_ok-skip.ensures in
    let plain : c.are_plain_patterns-is_plain.result ≡ are_plain_params (trees ps) = c.are_plain_patterns-is_plain.ensures ∙ ap (λ xs. are_plain_params (trees (map g.T.Trees.pat_of xs))) c.deref.ensures.value in
    let directs : misplaced_directive false body ≡ late c.strict_directive.result = c.in_ok-body.ensures.directive ∙ ap late (sym c.strict_directive.ensures) in
    let told_so : told (misplaced_directive (are_plain_params (trees ps)) body) u ≡ Ok (tt, v) = subst (λ b. told (misplaced_directive b body) u ≡ Ok (tt, v)) plain
    (told_late (λ o. o ≡ Ok (tt, v)) c.are_plain_patterns-is_plain.result body c.strict_directive.result u directs
    c.in_ok-misdirected.ensures.plain c.in_ok-misdirected.ensures.late) in
    let made : Span → Tree = λ span. tree.arrow span (listed ps) body c.args.is_async in
    let whole : Span = record { lo = c.args.start.lo; hi = u.at.last.hi } in
    let found = arrow_found c.args.is_async (g.G.Readers.depth c.args.g.now) c.args.start ps s m u body (sym c.had_line_break.ensures ∙ c.if-had_line_break.false) skipped c.in_ok-body.ensures.gives v told_so in
    made_gives g.T.Trees.expr_of (arrows.arrow_from (expr (g.G.Readers.depth c.args.g.now)) (function (g.G.Readers.depth c.args.g.now)) c.args.is_async c.args.start ps s) (made whole) v (g.P.Cursor.seen c.grown.new.p) c.grown.result
    c.made_arrow.result found
    (subst (λ z. IfOk c.made_arrow.result (λ y. g.T.Trees.expr_of y ≡ z)) (ap made c.since-span.ensures) c.made_arrow.ensures)
    c.grown.ensures.made c.grown.ensures.state c.grown.ensures.err
