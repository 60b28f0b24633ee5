use Rattle.std.proofs.Common.{◌∙◌, ap}
use Rattle.std.proofs.lemmas.Result.{err_from_is_err_and}
use Rattle.swc_ecma_parser_grammar.specs.scaffold.Using.{misused}
use Rattle.swc_ecma_parser_reader.specs.Jumps.{told}
use Rattle.swc_ecma_parser_statements.proofs.Misused.{misused_from, misused_next, told_ok, told_err}
use Rattle.swc_ecma_parser_statements.proofs.using.each_misused.Goals as goal

pub returns-in_err-misused : goal.returns-in_err-misused
returns-in_err-misused g c =
    let p = err_from_is_err_and c.from_residual.result c.from_residual.ensures.1 in
    let view = g.T.BuildsVariables.declarator_of in
    let s = g.P.Cursor.seen c.found.p in
    rw (p.1, p.2) (λ h. c.found.invariant ∙ ap (λ fs. told fs s) (misused_from view c.args.span c.args.found.now c.found.declarator-index c.declarator-item.result c.found-test.true c.declarator-item.is)
    ∙ told_err (misused c.args.span (view c.declarator-item.result)) _ s _ (c.in_err-misused.ensures h))

pub found-preserved : goal.found-preserved
found-preserved g c =
    let view = g.T.BuildsVariables.declarator_of in
    let s = g.P.Cursor.seen c.found.p in
    c.found.invariant ∙ ap (λ fs. told fs s) (misused_from view c.args.span c.args.found.now c.found.declarator-index c.declarator-item.result c.found-test.true c.declarator-item.is)
    ∙ told_ok (misused c.args.span (view c.declarator-item.result)) _ s _ c.in_ok-misused.ensures
    ∙ ap (λ fs. told fs (g.P.Cursor.seen c.misused.new.p)) (misused_next view c.args.span c.args.found.now c.found.declarator-index)
