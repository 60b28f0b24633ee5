use Rattle.std.proofs.Common.{sym, ◌∙◌}
use Rattle.swc_ecma_parser_reader.specs.Expressions.{touching_word}
use Rattle.swc_ecma_parser_shared.proofs.Refusals.{wanted_as}
use Rattle.swc_ecma_parser_shared.proofs.keys.touching_word.Goals as goal

pub returns : goal.returns
unfolding touching_word
returns g c = λ h. rw (sym c.touches.ensures ∙ c.if-touches.false) (wanted_as _ _ _ _ (c.wanted.ensures.tree h))
