use Rattle.steps.proofs.tests.opens_and_ticks.Given as goal

abbrev pub ghosts-settled : goal.ghosts-settled
ghosts-settled g a = record { name = a.blank.name; parts = a.blank.parts }
