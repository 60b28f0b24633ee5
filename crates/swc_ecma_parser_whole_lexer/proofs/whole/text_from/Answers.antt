use Rattle.swc_ecma_parser_whole_lexer.proofs.whole.text_from.Goals as goal

pub range_from-requires : goal.range_from-requires
range_from-requires c = λ _. c.requires.boundary
