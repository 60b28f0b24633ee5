use Rattle.swc_ecma_parser_grammar.proofs.language.spans.Statements.{spans_are_tokens}
use Rattle.swc_ecma_parser_grammar.proofs.spans_tokens.Goals as goal

pub returns : goal.returns
returns c = spans_are_tokens
