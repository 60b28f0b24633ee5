use Rattle.swc_ecma_parser_grammar.proofs.language.progress.Statements.{progress, shortens}
use Rattle.swc_ecma_parser_grammar.proofs.takes_tokens.Goals as goal

pub returns : goal.returns
returns c = record { behind = progress; fewer = shortens }
