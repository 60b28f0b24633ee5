use Rattle.std.proofs.Common.{◌∙◌, ap}
use Rattle.std.proofs.lemmas.Result.{err_from_is_err_and}
use Rattle.swc_ecma_parser_grammar.specs.Own.{specifier_faults}
use Rattle.swc_ecma_parser_reader.specs.Jumps.{told}
use Rattle.swc_ecma_parser_modules.proofs.Misnamed.{each_from, each_next, told_ok, told_err}
use Rattle.swc_ecma_parser_modules.proofs.exports.all_misnamed.Goals as goal

pub returns-in_err-misnamed : goal.returns-in_err-misnamed
returns-in_err-misnamed g c =
    let p = err_from_is_err_and c.from_residual.result c.from_residual.ensures.1 in
    let view = g.T.BuildsExport.export_specifier_of in
    let s = g.P.Cursor.seen c.specifiers.p in
    rw (p.1, p.2) (λ h. c.specifiers.invariant ∙ ap (λ fs. told fs s) (each_from view c.args.specifiers.now c.specifiers.specifier-index c.specifier-item.result c.specifiers-test.true c.specifier-item.is)
    ∙ told_err (specifier_faults (view c.specifier-item.result)) _ s _ (c.in_err-misnamed.ensures h))

pub specifiers-preserved : goal.specifiers-preserved
specifiers-preserved g c =
    let view = g.T.BuildsExport.export_specifier_of in
    let s = g.P.Cursor.seen c.specifiers.p in
    c.specifiers.invariant ∙ ap (λ fs. told fs s) (each_from view c.args.specifiers.now c.specifiers.specifier-index c.specifier-item.result c.specifiers-test.true c.specifier-item.is)
    ∙ told_ok (specifier_faults (view c.specifier-item.result)) _ s _ c.in_ok-misnamed.ensures
    ∙ ap (λ fs. told fs (g.P.Cursor.seen c.misnamed.new.p)) (each_next view c.args.specifiers.now c.specifiers.specifier-index)
