use Rattle.ecma_sorted.proofs.tests.block.Given as goal

abbrev pub ghosts-block_from : goal.ghosts-block_from
ghosts-block_from g a = record { start = a.state }
