use Rattle.std.proofs.Common.{Ok, sym, ap, ◌∙◌}
use Rattle.swc_ecma_parser_error.specs.Kind.{kind_of}
use Rattle.swc_ecma_parser_reader.specs.State.{fault_at, module_fault}
use Rattle.swc_ecma_parser_state.proofs.Held.{holds}
use Rattle.swc_ecma_parser_state.proofs.Underway.{holds_back}
use Rattle.swc_ecma_parser_state.proofs.cursor.CallCursor.module_fault.Goals as goal
use Rattle.swc_ecma_parser_state.proofs.cursor.CallCursor.module_fault.Goals.{in-Ok, in-Err}

pub returns : goal.returns
returns g c = elim c.match-add_module_mode_error.branch [
  | in-Ok w ↦ rw (w.result-is, w.self-is) (ap (λ t. Ok (tt, t)) (ap (module_fault (fault_at c.args.span (kind_of c.args.kind))) (sym c.self.view_is)
      ∙ holds c.self.inside.labels.items c.self.inside.found_module_item c.self.inside.mark _ c.self.inside.buffer c.add_module_mode_error.new.self w.in-Ok.ensures.ok))
  | in-Err w ↦ rw (w.result-is, w.self-is) (λ m. absurd (m w.out_of_memory.ensures.err))
]

pub invariant_of-self : goal.invariant_of-self
invariant_of-self g c = holds_back g.O.Origin.start _ c.self.inside.buffer _ c.self.inside.mark c.in-Ok.ensures.ok c.self.invariant
