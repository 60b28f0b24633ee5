use Rattle.swc_ecma_parser_grammar.proofs.Tabled.{walk_is_tabled}
use Rattle.swc_ecma_parser_grammar.proofs.finds_tabled_kinds.Goals as goal

pub returns : goal.returns
returns c = walk_is_tabled
