-- The text's length fits a position, the text ends there, and the settings are the plain ones.
use Rattle.std.proofs.Common.{rules, zero-add, ◌∙◌}
use Rattle.ecma_report.proofs.Reported.{begins}
use Rattle.ecma_report.proofs.answer.parser_of.Goals as goal

pub overflow_cast-end : goal.overflow_cast-end
overflow_cast-end c = search rules

pub new-input-requires : goal.new-input-requires
new-input-requires c = zero-add _

pub returns-clause-state : goal.returns-clause-state
returns-clause-state c = λ h k. c.new.ensures.left h k ∙ begins _ _ _ _ c.default.ensures c.new-input.ensures.start c.new-input.ensures.src
