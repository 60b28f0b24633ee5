use Rattle.std.proofs.Common.{sym, ◌∙◌}
use Rattle.swc_ecma_parser_whole_lexer.proofs.Shallow.{shallow-fits}
use Rattle.swc_ecma_parser_whole_lexer.proofs.whole.WholeLexer.pass.Goals as goal

pub invariant_of-self-else-is_too_deep : goal.invariant_of-self-else-is_too_deep
invariant_of-self-else-is_too_deep c = record { is_shallow = shallow-fits c.pass.new.self (sym c.is_too_deep-is_too_deep.ensures ∙ c.if-is_too_deep.false) }
