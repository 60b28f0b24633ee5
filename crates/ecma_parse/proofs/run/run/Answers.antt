-- A text that spells a tree ends with status 0, or with that of a fault.
use Rattle.std.proofs.Common.{◌≡◌, ◌∙◌, sym, subst}
use Rattle.std.specs.Prelude.{IfOk}
use Rattle.ecma_report.specs.declared.answer.Verdict.TheVariants as verdict
use Rattle.ecma_parse.proofs.Statuses.{where_known, where_ok, ends}
use Rattle.ecma_parse.proofs.run.run.Goals as goal
use Rattle.ecma_parse.proofs.run.run.Goals.{in-Err, in_default}

pub returns-clause-spelled : goal.returns-clause-spelled
returns-clause-spelled g c =
    let same : c.match-outcome.outcome ≡ c.answer-outcome.result = elim c.match-outcome.branch [ in-Err w ↦ w.outcome-is ∙ sym w.in-Err.is | in_default w ↦ w.outcome-is ] in
    where_ok c.args.words c.answer-outcome.ensures.spelled (λ words h asked e.
    where_known (g.R.Read.remaining c.args.input.now) (h asked e) (λ xs k x p.
    ends c.match-outcome.outcome c.status.result c.status.ensures.clean c.status.ensures.fault (subst (λ o. IfOk o (λ v. v ≡ verdict.Clean)) (sym same) (k x p))))
