use Rattle.std.proofs.Common.{ap, ◌∙◌}
use Rattle.swc_ecma_parser_grammar.specs.language.Plain.{plain_list}
use Rattle.swc_ecma_parser_grammar.proofs.language.plain.Entries.{plain_lists_are_plain}
use Rattle.swc_ecma_parser.proofs.Plainness.{plain_tokens}
use Rattle.swc_ecma_parser.proofs.lexing.reads_plain_texts.Goals as goal

pub returns-clause-tokens : goal.returns-clause-tokens
returns-clause-tokens c = plain_tokens

pub returns-clause-trees : goal.returns-clause-trees
returns-clause-trees c =
    λ n entry k x p d start at b cs e r. plain_lists_are_plain n entry k x p d r (ap plain_list e ∙ plain_tokens start at b cs)
