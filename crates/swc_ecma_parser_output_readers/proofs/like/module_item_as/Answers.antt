use Rattle.swc_ecma_parser_grammar.specs.language.Items.{top_item}
use Rattle.swc_ecma_parser_output_readers.specs.ItemLaws.{module_decides}
use Rattle.swc_ecma_parser_output_readers.proofs.like.module_item_as.Goals as goal

pub returns-clause-decides : goal.returns-clause-decides
returns-clause-decides g c = module_decides g.Y.IsDirective.held c.args.limit top_item _ _ _ c.item_made.ensures
