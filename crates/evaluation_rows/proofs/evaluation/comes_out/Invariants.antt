use Rattle.evaluation_rows.proofs.evaluation.comes_out.Given as goal

abbrev pub ghosts-shown : goal.ghosts-shown
ghosts-shown l = record { name = l.blank.name; parts = l.blank.parts }
