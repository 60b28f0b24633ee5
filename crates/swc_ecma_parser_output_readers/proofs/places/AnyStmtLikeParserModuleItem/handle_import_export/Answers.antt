use Rattle.swc_ecma_parser_output_readers.specs.ItemLaws.{item_decides}
use Rattle.swc_ecma_parser_output_readers.proofs.places.AnyStmtLikeParserModuleItem.handle_import_export.Goals as goal

pub returns-clause-decides : goal.returns-clause-decides
returns-clause-decides g c = item_decides _ c.args.limit c.args.at _ _ _ c.requires c.module_item_as.ensures.gives
