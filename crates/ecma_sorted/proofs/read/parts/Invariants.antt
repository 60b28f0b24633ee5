use Rattle.ecma_sorted.proofs.read.parts.Given as goal

abbrev pub ghosts-parts_from : goal.ghosts-parts_from
ghosts-parts_from g a = record { start = a.state }
