use Rattle.std.proofs.Common.{true, ◌++◌, ◌∙◌, ap}
use Rattle.swc_ecma_parser_state.proofs.Contexts.{released_faults}
use Rattle.swc_ecma_parser_state.proofs.Underway.{sets}
use Rattle.swc_ecma_parser_state.proofs.state.Call.turn_module.Goals as goal

pub returns-clause-faults : goal.returns-clause-faults
returns-clause-faults g c =
    let p = released_faults c.self.inside.buffer _ c.set_ctx.ensures in
    (p.0, p.1 ∙ ap (λ s. s.faults ++ p.0) c.self.view_is, p.2 ∙ ap (λ s. s.notes.held_back) c.self.view_is)

pub invariant_of-self : goal.invariant_of-self
invariant_of-self g c = sets g.O.Origin.start (record c.ctx-before.result { «module» = true; strict = true }) c.self.inside.buffer _ c.self.inside.mark c.set_ctx.ensures c.self.invariant
