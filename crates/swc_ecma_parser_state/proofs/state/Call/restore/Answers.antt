use Rattle.std.proofs.Common.{◌++◌, ◌∙◌, ap}
use Rattle.swc_ecma_parser_error.specs.Kind.{faults_of}
use Rattle.swc_ecma_parser_state.proofs.Contexts.{context_is, none_recorded, recorded_stay}
use Rattle.swc_ecma_parser_state.proofs.Underway.{sets}
use Rattle.swc_ecma_parser_state.proofs.state.Call.restore.Goals as goal

pub returns-clause-flags : goal.returns-clause-flags
returns-clause-flags g c = rw (c.set_ctx.ensures, context_is)

pub returns-clause-faults : goal.returns-clause-faults
returns-clause-faults g c = let p = recorded_stay c.args.flags c.self.inside.buffer in (p.0, ap (λ b. faults_of b.recorded) c.set_ctx.ensures ∙ p.1 ∙ ap (λ s. s.faults ++ p.0) c.self.view_is)

pub returns-clause-plain : goal.returns-clause-plain
returns-clause-plain g c = λ h. ap (λ b. faults_of b.recorded) c.set_ctx.ensures ∙ ap faults_of (none_recorded c.args.flags c.self.inside.buffer h) ∙ ap (λ s. s.faults) c.self.view_is

pub invariant_of-self : goal.invariant_of-self
invariant_of-self g c = sets g.O.Origin.start _ c.self.inside.buffer _ c.self.inside.mark c.set_ctx.ensures c.self.invariant
