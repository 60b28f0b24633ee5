use Rattle.swc_ecma_parser_entries.proofs.entry.module.Given as goal

abbrev pub ghosts-module_from : goal.ghosts-module_from
ghosts-module_from g a = record { start = a.state }
