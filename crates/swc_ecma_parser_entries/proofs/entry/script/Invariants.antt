use Rattle.swc_ecma_parser_entries.proofs.entry.script.Given as goal

abbrev pub ghosts-script_from : goal.ghosts-script_from
ghosts-script_from g a = record { start = a.state }
