use Rattle.std.proofs.Common.{length, ap, ◌∙◌}
use Rattle.swc_ecma_parser_state.proofs.Contexts.{left_stays}
use Rattle.swc_ecma_parser_state.proofs.state.State.new.Goals as goal

pub returns-clause-len : goal.returns-clause-len
returns-clause-len g c = c.new.ensures.len ∙ ap (λ s. length s.left) c.set_ctx.ensures ∙ ap length (left_stays _ (g.I.Tokens.seen c.args.input))
