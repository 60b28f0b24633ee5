use Rattle.std.proofs.Common.{◌≡◌, false, Ok, Err, sym, ap, ◌∙◌}
use Rattle.std.proofs.lemmas.Result.{err_from_is_err_and}
use Rattle.swc_ecma_parser_arrows.specs.Arrows.{body_of}
use Rattle.swc_ecma_parser_error.specs.Kind.{Fault, fault_of}
use Rattle.swc_ecma_parser_functions.specs.Late.{late}
use Rattle.swc_ecma_parser_grammar.specs.Own.{misplaced_directive}
use Rattle.swc_ecma_parser_model.specs.Tree.{Tree}
use Rattle.swc_ecma_parser_reader.specs.Arrows.{arrow_body}
use Rattle.swc_ecma_parser_reader.specs.Reader as rules
use Rattle.swc_ecma_parser_reader.specs.State.{State, Reader}
use Rattle.swc_ecma_parser_functions.proofs.Parts.{told_late}
use Rattle.swc_ecma_parser_function_bodies.proofs.Late.{directed_err, directed_found}
use Rattle.swc_ecma_parser_function_bodies.proofs.arrow.directed_arrow_body.Goals as goal

pub returns-in_err-misdirected : goal.returns-in_err-misdirected
returns-in_err-misdirected g c =
    let p = err_from_is_err_and c.from_residual-in_err-misdirected.result c.from_residual-in_err-misdirected.ensures.1 in
    let u = g.P.Cursor.seen c.arrow_body.new.p in
    let read = body_of g.T.BuildsBlock.block_of g.T.Trees.expr_of c.in_ok-body.body in
    let body : Reader Tree = arrow_body (rules.expr (g.G.Readers.depth c.args.g.now)) (rules.function (g.G.Readers.depth c.args.g.now)) c.args.is_async in
    let e : Fault × State = (fault_of c.in_err-misdirected.field-0.0, g.P.Cursor.seen c.misdirected.new.p) in
    let directs : misplaced_directive false read ≡ late c.strict_directive.result = c.in_ok-body.ensures.directive ∙ ap late (sym c.strict_directive.ensures) in
    rw (p.1, p.2) (λ h. directed_err c.args.is_simple body (g.P.Cursor.seen c.args.p.now) u read c.in_ok-body.ensures.gives e
    (told_late (λ o. o ≡ Err e) c.args.is_simple read c.strict_directive.result u directs
    (λ b. c.in_err-misdirected.ensures.plain b h) (λ b. c.in_err-misdirected.ensures.late b h)))

pub returns : goal.returns
returns g c =
    let u = g.P.Cursor.seen c.arrow_body.new.p in
    let v = g.P.Cursor.seen c.misdirected.new.p in
    let read = body_of g.T.BuildsBlock.block_of g.T.Trees.expr_of c.in_ok-body.body in
    let body : Reader Tree = arrow_body (rules.expr (g.G.Readers.depth c.args.g.now)) (rules.function (g.G.Readers.depth c.args.g.now)) c.args.is_async in
    let directs : misplaced_directive false read ≡ late c.strict_directive.result = c.in_ok-body.ensures.directive ∙ ap late (sym c.strict_directive.ensures) in
    directed_found c.args.is_simple body (g.P.Cursor.seen c.args.p.now) u read c.in_ok-body.ensures.gives v
    (told_late (λ o. o ≡ Ok (tt, v)) c.args.is_simple read c.strict_directive.result u directs
    c.in_ok-misdirected.ensures.plain c.in_ok-misdirected.ensures.late)
