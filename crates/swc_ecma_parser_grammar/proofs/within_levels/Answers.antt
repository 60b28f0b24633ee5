use Rattle.swc_ecma_parser_grammar.proofs.language.Depths.{levels_are_depth}
use Rattle.swc_ecma_parser_grammar.proofs.within_levels.Goals as goal

pub returns : goal.returns
returns c = levels_are_depth
