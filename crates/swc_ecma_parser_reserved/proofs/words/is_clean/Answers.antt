use Rattle.std.proofs.Common.{◌∙◌}
use Rattle.swc_ecma_parser_reserved.proofs.Agreement.{clean-word}
use Rattle.swc_ecma_parser_reserved.proofs.words.is_clean.Goals as goal

pub returns : goal.returns
returns c = c.is_clean_word.ensures ∙ clean-word c.args.flags c.args.word.now
