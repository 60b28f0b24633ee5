use Rattle.std.proofs.Common.{[], refl, sym, ◌∙◌}
use Rattle.swc_ecma_parser_module_reader.specs.Items.{begun_item}
use Rattle.swc_ecma_parser_entries.proofs.entry.begin_item.Goals as goal

-- a statement leaves the code as it is
pub returns-then-not-begins_module : goal.returns-then-not-begins_module
unfolding begun_item
returns-then-not-begins_module g c =
    let e = sym c.begins_module.ensures ∙ c.if-not-begins_module.true in
    ([], rw e refl, rw e refl)

pub returns : goal.returns
unfolding begun_item
returns g c =
    let e = sym c.begins_module.ensures ∙ c.if-not-begins_module.false in
    let (recorded, faults, noted) = c.turn_module.ensures.faults in (
      recorded,
      rw e noted,
      rw e (λ i. record {
        at = c.turn_module.ensures.at i;
        code = c.turn_module.ensures.code i;
        scope = c.turn_module.ensures.scope i;
        faults = faults i;
        notes = c.turn_module.ensures.found i;
      }),
    )
