use Rattle.ecma_sorted.proofs.tests.arrow.Given as goal

abbrev pub ghosts-arrow_from : goal.ghosts-arrow_from
ghosts-arrow_from g a = record { start = a.state }
