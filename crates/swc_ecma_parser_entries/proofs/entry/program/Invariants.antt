use Rattle.swc_ecma_parser_entries.proofs.entry.program.Given as goal

abbrev pub ghosts-program_from : goal.ghosts-program_from
ghosts-program_from g a = record { start = a.state }
