use Rattle.ecma_sorted.proofs.tests.handles.Given as goal

abbrev pub ghosts-handles_from : goal.ghosts-handles_from
ghosts-handles_from g a = record { start = a.state }
