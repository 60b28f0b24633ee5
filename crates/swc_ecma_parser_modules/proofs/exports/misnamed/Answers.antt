use Rattle.std.proofs.Common.{◌≡◌, [], ◌∷◌, sym, ap, subst, ◌∙◌}
use Rattle.swc_ecma_parser_error.specs.Kind.{ExportBindingIsString}
use Rattle.swc_ecma_parser_grammar.specs.Own.{fault, specifier_faults}
use Rattle.swc_ecma_parser_reader.specs.Jumps.{told}
use Rattle.swc_ecma_parser_reader.specs.State as reader
use Rattle.swc_ecma_parser_modules.proofs.Misnamed.{string_faults, told_one}
use Rattle.swc_ecma_parser_modules.proofs.exports.misnamed.Goals as goal

pub returns-then-is_str_export : goal.returns-then-is_str_export
returns-then-is_str_export g c =
    let x = g.T.BuildsExport.export_specifier_of c.args.specifier.now in
    let s = g.P.Cursor.seen c.args.p.now in
    let f = fault ExportBindingIsString c.export_name_span-span.result in
    let e : told (specifier_faults x) s ≡ reader.fault f s =
    ap (λ fs. told fs s) (string_faults x (sym c.if-is_export_namespace.ensures) (sym c.if-is_export_default.ensures) (sym c.if-is_str_export.ensures)
    ∙ ap (λ z. fault ExportBindingIsString z ∷ []) (sym c.export_name_span-span.ensures)) ∙ told_one f s in
    subst (λ o. reader.Gives o c.fault.result (g.P.Cursor.seen c.fault.new.self)) (sym e) c.fault.ensures
