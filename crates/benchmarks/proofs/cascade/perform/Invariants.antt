use Rattle.benchmarks.proofs.cascade.perform.Given as goal

abbrev pub ghosts-style_all : goal.ghosts-style_all
ghosts-style_all a = record { name = a.blank.name; parts = a.blank.parts }
