use Rattle.swc_ecma_parser_module_reader.proofs.Unique.{module_is_one}
use Rattle.swc_ecma_parser_module_reader.proofs.one_module.Goals as goal

pub returns : goal.returns
returns c = module_is_one
