use Rattle.std.proofs.Common.{sym, subst}
use Rattle.std.proofs.lemmas.Result.{err_from_is_err_and}
use Rattle.swc_ecma_parser_reader.specs.State.{Gives}
use Rattle.swc_ecma_parser_members.proofs.Setters.{setter_err, setter_told}
use Rattle.swc_ecma_parser_members.proofs.methods.setter_faults.Goals as goal

pub returns-in_err-told_if : goal.returns-in_err-told_if
returns-in_err-told_if g c =
    let p = err_from_is_err_and c.from_residual.result c.from_residual.ensures.1 in
    rw (p.1, p.2) (λ h. setter_err g.T.Trees.pat_of c.args.word (g.P.Cursor.seen c.args.p.now) c.args.params.now c.is_not_one-is_wrong.result c.is_not_one-is_wrong.ensures _ (c.in_err-told_if.ensures h))

pub returns : goal.returns
returns g c =
    subst (λ o. Gives o c.rest_faults.result (g.P.Cursor.seen c.rest_faults.new.p))
    (sym (setter_told g.T.Trees.pat_of c.args.word (g.P.Cursor.seen c.args.p.now) c.args.params.now c.is_not_one-is_wrong.result c.is_not_one-is_wrong.ensures _ c.in_ok-told_if.ensures))
    c.rest_faults.ensures
