use Rattle.swc_ecma_parser_exactness.proofs.Unique.{one_script, one_module, one_program}
use Rattle.swc_ecma_parser_exactness.proofs.reads_one.Goals as goal

pub returns : goal.returns
returns c = record { scripts = one_script; modules = one_module; programs = one_program }
