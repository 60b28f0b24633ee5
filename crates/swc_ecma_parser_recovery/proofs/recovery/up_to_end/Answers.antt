use Rattle.std.proofs.Common.{sym, ◌∙◌}
use Rattle.std.proofs.lemmas.Result.{err_from_is_err_and}
use Rattle.swc_ecma_parser_recovery.proofs.UpToEnd.{end_refused}
use Rattle.swc_ecma_parser_recovery.proofs.recovery.up_to_end.Goals as goal

pub returns-in_err-pass : goal.returns-in_err-pass
returns-in_err-pass g c =
    let p = err_from_is_err_and c.from_residual.result c.from_residual.ensures.1 in
    rw (p.1, p.2) (λ h. c.tokens.invariant ∙ end_refused tt (g.P.Cursor.seen c.tokens.p) (sym c.if-sees.ensures) (sym c.if-can_end.ensures) _ (c.in_err-pass.ensures h))
