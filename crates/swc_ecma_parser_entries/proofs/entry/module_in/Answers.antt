use Rattle.std.proofs.Common.{[], ◌++◌, refl, ap, sym, ◌∙◌, subst}
use Rattle.swc_ecma_parser_reader.specs.Entry.{unmarked}
use Rattle.swc_ecma_parser_module_reader.specs.Entry.{IsEntered}
use Rattle.swc_ecma_parser_module_reader.specs.Modules.{module_code}
use Rattle.swc_ecma_parser_entries.proofs.Begun.{begun_unmarked}
use Rattle.swc_ecma_parser_entries.proofs.Read.{module_read, module_refuses}
use Rattle.swc_ecma_parser_entries.proofs.entry.module_in.Goals as goal

pub returns-then-is_lost-clause-answers : goal.returns-then-is_lost-clause-answers
returns-then-is_lost-clause-answers g c = λ s is.
    let v = c.enter_module.new.self in
    let (recorded, faults, noted) = c.enter_module.ensures.faults in (
      record v { scope = (unmarked s).scope },
      record {
        code = c.enter_module.ensures.code ∙ ap (λ z. module_code z.code) is;
        at = c.enter_module.ensures.at ∙ ap (λ z. z.at) is;
        scope = refl;
        notes = c.enter_module.ensures.found ∙ ap (λ z. record z.notes { held_back = [] }) is;
        recorded = recorded;
        faults = faults ∙ ap (λ z. z.faults ++ recorded) is;
        recorded_as = noted ∙ ap (λ z. z.notes.held_back) is;
      },
      λ h. absurd (h c.lost.ensures.err),
    )

pub returns-clause-answers : goal.returns-clause-answers
returns-clause-answers g c = λ s is.
    let v = c.enter_module.new.self in
    let e = begun_unmarked s c.args.call.now is (sym c.is_marked-is_lost.ensures ∙ c.if-is_lost.false) in
    let i : IsEntered (unmarked s) v = subst (λ z. IsEntered z v) e (record {
      code = c.enter_module.ensures.code;
      at = c.enter_module.ensures.at;
      scope = c.enter_module.ensures.scope;
      notes = c.enter_module.ensures.found;
      recorded = c.enter_module.ensures.faults.0;
      faults = c.enter_module.ensures.faults.1;
      recorded_as = c.enter_module.ensures.faults.2;
    }) in
    (v, i, module_read g.T.BuildsItem.module_of c.args.limit _ (unmarked s) v i _ c.module_body-read.ensures.gives)

pub returns-then-is_lost-clause-refuses : goal.returns-then-is_lost-clause-refuses
returns-then-is_lost-clause-refuses g c = λ s is h. absurd (h c.lost.ensures.err)

pub returns-clause-refuses : goal.returns-clause-refuses
returns-clause-refuses g c = λ s is.
    let v = c.enter_module.new.self in
    let e = begun_unmarked s c.args.call.now is (sym c.is_marked-is_lost.ensures ∙ c.if-is_lost.false) in
    let i : IsEntered (unmarked s) v = subst (λ z. IsEntered z v) e (record {
      code = c.enter_module.ensures.code;
      at = c.enter_module.ensures.at;
      scope = c.enter_module.ensures.scope;
      notes = c.enter_module.ensures.found;
      recorded = c.enter_module.ensures.faults.0;
      faults = c.enter_module.ensures.faults.1;
      recorded_as = c.enter_module.ensures.faults.2;
    }) in
    module_refuses g.T.BuildsItem.module_of c.args.limit _ (unmarked s) v i _ c.module_body-read.ensures.gives
