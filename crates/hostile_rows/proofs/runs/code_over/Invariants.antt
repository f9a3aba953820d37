use Rattle.hostile_rows.proofs.runs.code_over.Given as goal

abbrev pub ghosts-code_with : goal.ghosts-code_with
ghosts-code_with g a = record { name = a.blank.name; parts = a.blank.parts }
