use Rattle.swc_ecma_parser_entries.proofs.entry.item.Given as goal

abbrev pub ghosts-item_from : goal.ghosts-item_from
ghosts-item_from g a = record { start = a.state }
