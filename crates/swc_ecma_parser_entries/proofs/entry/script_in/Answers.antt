use Rattle.std.proofs.Common.{Ok, refl, sym, ap, ◌∙◌}
use Rattle.std.proofs.lemmas.Result.{err_from_is_err_and}
use Rattle.swc_ecma_parser_grammar.specs.language.Contexts.{script_code}
use Rattle.swc_ecma_parser_reader.specs.Entry.{unmarked}
use Rattle.swc_ecma_parser_reader.specs.Reader.{script, script_body}
use Rattle.swc_ecma_parser_reader.specs.State.{and_then, coded, flagged}
use Rattle.swc_ecma_parser_reader.proofs.Entries.{script_refused}
use Rattle.swc_ecma_parser_entries.proofs.Begun.{begun_unmarked}
use Rattle.swc_ecma_parser_entries.proofs.SetBack.{set_back_self}
use Rattle.swc_ecma_parser_entries.proofs.entry.script_in.Goals as goal

pub returns-in_err-script-clause-answers : goal.returns-in_err-script-clause-answers
returns-in_err-script-clause-answers g c =
    let p = err_from_is_err_and c.from_residual.result c.from_residual.ensures.1 in
    rw (p.1, p.2) (λ s is h.
    let e = begun_unmarked s c.args.call.now is (sym c.is_marked.ensures ∙ c.if-is_marked.false) in (
      c.script_body-read.new.p,
      script_refused c.args.limit (unmarked s) _ (ap (script_body c.args.limit) (sym (c.enter_script.ensures ∙ ap (λ z. coded (script_code z.code) z) e)) ∙ c.in_err-script.ensures.gives h),
      set_back_self c.script_body-read.new.p,
    ))

pub returns-clause-answers : goal.returns-clause-answers
unfolding script
returns-clause-answers g c = λ s is.
    let e = begun_unmarked s c.args.call.now is (sym c.is_marked.ensures ∙ c.if-is_marked.false) in
    let u = c.script_body-read.new.p in
    let enters = c.enter_script.ensures ∙ ap (λ z. coded (script_code z.code) z) e in
    let left = c.leave_script.ensures ∙ ap (λ f. coded (record u.code { flags = f }) u) (c.flags-inner.ensures ∙ ap (λ z. z.code.flags) enters) in
    ap (λ z. and_then (script_body c.args.limit z) (λ x t. Ok (x, flagged (script_code s.code) t))) (sym enters)
    ∙ ap (λ o. and_then o (λ x t. Ok (x, flagged (script_code s.code) t))) c.in_ok-script.ensures.gives ∙ ap (λ t. Ok (g.T.BuildsScript.script_of c.in_ok-script.script, t)) (sym left)

pub returns-in_err-script-clause-refuses : goal.returns-in_err-script-clause-refuses
returns-in_err-script-clause-refuses g c =
    let p = err_from_is_err_and c.from_residual.result c.from_residual.ensures.1 in
    rw (p.1, p.2) (λ s is h.
    let e = begun_unmarked s c.args.call.now is (sym c.is_marked.ensures ∙ c.if-is_marked.false) in record {
      stopped = c.script_body-read.new.p;
      refused = script_refused c.args.limit (unmarked s) _ (ap (script_body c.args.limit) (sym (c.enter_script.ensures ∙ ap (λ z. coded (script_code z.code) z) e)) ∙ c.in_err-script.ensures.gives h);
      faults = λ k. refl;
    })
