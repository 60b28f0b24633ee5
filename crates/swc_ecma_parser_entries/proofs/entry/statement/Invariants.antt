use Rattle.swc_ecma_parser_entries.proofs.entry.statement.Given as goal

abbrev pub ghosts-statement_from : goal.ghosts-statement_from
ghosts-statement_from g a = record { start = a.state }
