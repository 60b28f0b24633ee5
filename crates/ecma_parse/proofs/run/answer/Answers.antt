-- The words ask for what was read, and the text is what the reader had left.
use Rattle.std.proofs.Common.{sym, subst, ◌∙◌}
use Rattle.std.specs.Io.KnownBytes.{Appends}
use Rattle.ecma_report.specs.Spelled.{SpellsAs}
use Rattle.ecma_parse.proofs.Statuses.{where_known, where_ok, more_of, same_ok}
use Rattle.ecma_parse.proofs.run.answer.Goals as goal

pub returns-clause-clean : goal.returns-clause-clean
returns-clause-clean g c = λ v.
    let (x, p, l) = c.in_ok-verdict.ensures.clean v in
    let same = c.in-Ok.ensures.cases.0 ∙ c.as_slice.ensures.value in
    let written = subst (Appends (g.W.Write.contents c.args.output.now) (g.W.Write.contents c.write_text.new.output)) (c.as_str.ensures.value ∙ l) c.in_ok-write_text.ensures.ok in
    more_of c.args.words.now c.in_ok-goal.ensures.ok (λ words e.
    (_, e, where_known (g.R.Read.remaining c.args.input.now) c.in_ok-bytes.ensures.whole (λ xs h. (x, subst (λ z. SpellsAs c.in_ok-goal.goal z x) (same ∙ h) p, written))))

pub returns-clause-spelled : goal.returns-clause-spelled
returns-clause-spelled g c = where_ok c.args.words.now c.in_ok-goal.ensures.known (λ words h asked e.
    where_known (g.R.Read.remaining c.args.input.now) c.in_ok-bytes.ensures.whole (λ xs k x p.
    (c.in_ok-verdict.ensures.spelled x (subst (λ z. SpellsAs c.in_ok-goal.goal z x) (sym k ∙ sym c.as_slice.ensures.value ∙ sym c.in-Ok.ensures.cases.0) (subst (λ it. SpellsAs it xs x) (sym (same_ok _ _ (h asked e))) p))).0))
