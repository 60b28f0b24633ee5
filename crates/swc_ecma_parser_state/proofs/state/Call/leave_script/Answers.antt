use Rattle.swc_ecma_parser_state.proofs.Underway.{sets}
use Rattle.swc_ecma_parser_state.proofs.state.Call.leave_script.Goals as goal

pub invariant_of-self : goal.invariant_of-self
invariant_of-self g c = sets g.O.Origin.start _ c.self.inside.buffer _ c.self.inside.mark c.set_ctx.ensures c.self.invariant
