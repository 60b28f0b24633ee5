use Rattle.swc_ecma_parser_grammar.proofs.language.Local.{follow_is_local}
use Rattle.swc_ecma_parser_grammar.proofs.looks_one_token_ahead.Goals as goal

pub returns : goal.returns
returns c = follow_is_local
