use Rattle.swc_ecma_parser_module_reader.proofs.UniquePrograms.{is_one_program}
use Rattle.swc_ecma_parser_module_reader.proofs.one_program.Goals as goal

pub returns : goal.returns
returns c = is_one_program
