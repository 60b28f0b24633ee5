use Rattle.swc_ecma_parser_grammar.proofs.FewFlags.{walk_looks_at_few}
use Rattle.swc_ecma_parser_grammar.proofs.walks_by_few_flags.Goals as goal

pub returns : goal.returns
returns c = walk_looks_at_few
