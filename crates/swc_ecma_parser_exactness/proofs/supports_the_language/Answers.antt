use Rattle.swc_ecma_parser_exactness.proofs.Goals.{reads_whole}
use Rattle.swc_ecma_parser_exactness.proofs.Entries.{read_entry, read_program}
use Rattle.swc_ecma_parser_exactness.proofs.supports_the_language.Goals as goal

pub returns : goal.returns
returns c = record { whatever = reads_whole; entries = read_entry; programs = read_program }
