use Rattle.swc_ecma_parser_state.proofs.Underway.{records}
use Rattle.swc_ecma_parser_state.proofs.state.Call.record.Goals as goal

pub invariant_of-self : goal.invariant_of-self
invariant_of-self g c = records g.O.Origin.start _ c.self.inside.buffer _ c.self.inside.mark c.in-Ok.ensures.ok c.self.invariant
