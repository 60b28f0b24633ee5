use Rattle.swc_ecma_parser_grammar.proofs.language.plain.Entries.{plain_lists_are_plain}
use Rattle.swc_ecma_parser_grammar.proofs.reads_plain_lists.Goals as goal

pub returns : goal.returns
returns c = plain_lists_are_plain
