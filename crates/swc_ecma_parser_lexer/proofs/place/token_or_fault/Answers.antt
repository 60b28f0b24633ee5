use Rattle.std.proofs.Common.{ap, sym, ◌∙◌, true≢false}
use Rattle.swc_ecma_parser_input.specs.TokenSource.{is_out_of_memory}
use Rattle.swc_ecma_parser_lexer.proofs.Memory.{never-lost}
use Rattle.swc_ecma_parser_lexer.proofs.place.token_or_fault.Goals as goal

pub returns-in-Ok-clause-lost : goal.returns-in-Ok-clause-lost
returns-in-Ok-clause-lost c =
    λ h. absurd (true≢false (sym h ∙ ap is_out_of_memory c.in-Ok.ensures.token ∙ never-lost c.args.state c.args.text.now c.args.span))
