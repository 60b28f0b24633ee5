use Rattle.std.proofs.Common.{Ok, Err, refl, sym, subst}
use Rattle.swc_ecma_parser_state.specs.Contents.{seen}
use Rattle.swc_ecma_parser_entries.specs.Ends.{Ends}
use Rattle.swc_ecma_parser_entries.proofs.entry.ended.Goals as goal

pub returns-in-Ok-clause-ends : goal.returns-in-Ok-clause-ends
returns-in-Ok-clause-ends g c = subst (λ r. Ends r c.args.call c.args.outer c.args.found_module_item (seen c.end.result) (Ok c.in-Ok.read)) (sym c.in-Ok.is) (c.end.ensures.state, refl)

pub returns-in-Err-clause-ends : goal.returns-in-Err-clause-ends
returns-in-Err-clause-ends g c =
    let told = c.refused-state.ensures in
    subst (λ r. Ends r c.args.call c.args.outer c.args.found_module_item (seen c.refused-state.result.0) (Err c.refused-state.result.1)) (sym c.in-Err.is) (
      c.refused-state.result.1,
      refl,
      record {
        same = told.same;
        plain = told.plain;
        back = told.back;
        faults = told.faults;
        flags = told.flags;
        labels = told.labels;
        noted = told.noted;
        memory = told.memory;
      },
    )
