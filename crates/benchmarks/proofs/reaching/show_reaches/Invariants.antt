use Rattle.benchmarks.proofs.reaching.show_reaches.Given as goal

abbrev pub ghosts-show_lines : goal.ghosts-show_lines
ghosts-show_lines a = record { name = a.blank.name; parts = a.blank.parts }
