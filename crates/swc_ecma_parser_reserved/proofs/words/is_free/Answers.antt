use Rattle.std.proofs.Common.{◌∙◌}
use Rattle.swc_ecma_parser_reserved.proofs.Agreement.{free-word}
use Rattle.swc_ecma_parser_reserved.proofs.words.is_free.Goals as goal

pub returns : goal.returns
returns c = c.is_free_word.ensures ∙ free-word c.args.flags c.args.word.now
