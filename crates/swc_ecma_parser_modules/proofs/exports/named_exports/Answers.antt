use Rattle.std.proofs.Common.{◌≡◌, ◌<◌, true, [], ◌∷◌, ◌++◌, length, map, sym, ap, subst, ◌∙◌}
use Rattle.std.proofs.lemmas.List.{map_push}
use Rattle.std.proofs.lemmas.Result.{err_from_is_err_and}
use Rattle.swc_ecma_parser_token.specs.declared.kind.TokenKind.TheVariants as kind
use Rattle.swc_ecma_parser_grammar.specs.Looks.{sees}
use Rattle.swc_ecma_parser_reader.specs.State.{moved, loop}
use Rattle.swc_ecma_parser_module_reader.specs.Imports.{specifiers_turn}
use Rattle.swc_ecma_parser_module_reader.specs.Exports.{export_specifier}
use Rattle.swc_ecma_parser_module_reader.proofs.Falls.{export_specifier_shorter}
use Rattle.swc_ecma_parser_module_reader.proofs.Loops.{specifiers_err, specifiers_more}
use Rattle.swc_ecma_parser_modules.proofs.Steps.{skipped, exports_shorter}
use Rattle.swc_ecma_parser_modules.proofs.exports.named_exports.Goals as goal

pub returns-in_err-specifier : goal.returns-in_err-specifier
returns-in_err-specifier g c =
    let p = err_from_is_err_and c.from_residual.result c.from_residual.ensures.1 in
    rw (p.1, p.2) (λ h. c.specifiers.invariant
    ∙ specifiers_err export_specifier (map g.T.BuildsExport.export_specifier_of c.specifiers.found.items) (g.P.Cursor.seen c.specifiers.p) _ (sym c.if-sees.ensures) (c.in_err-specifier.ensures h))

pub specifiers-preserved : goal.specifiers-preserved
specifiers-preserved g c =
    let s = g.P.Cursor.seen c.specifiers.p in
    let t = g.P.Cursor.seen c.export_specifier.new.p in
    let found = map g.T.BuildsExport.export_specifier_of c.specifiers.found.items in
    let x = g.T.BuildsExport.export_specifier_of c.in_ok-specifier.specifier in
    let same = c.in_ok-pushed.ensures.state in
    rw (c.in_ok-pushed.ensures.items, map_push) (c.specifiers.invariant
    ∙ specifiers_more export_specifier found s x t (sym c.if-sees.ensures) c.in_ok-specifier.ensures (subst (λ u. sees kind.Comma u.at ≡ true) same (sym c.if-not-sees.ensures))
    (export_specifier_shorter s x t c.in_ok-specifier.ensures)
    ∙ ap (loop (specifiers_turn export_specifier) (found ++ x ∷ [])) (ap moved (sym same) ∙ skipped _ _ c.in_ok-skip.ensures))

pub specifiers-smaller : goal.specifiers-smaller
specifiers-smaller g c =
    let s = g.P.Cursor.seen c.specifiers.p in
    let t = g.P.Cursor.seen c.export_specifier.new.p in
    subst (λ u. length u.at.left < length s.at.left) (ap moved (sym c.in_ok-pushed.ensures.state) ∙ skipped _ _ c.in_ok-skip.ensures) (exports_shorter s _ t c.in_ok-specifier.ensures)
