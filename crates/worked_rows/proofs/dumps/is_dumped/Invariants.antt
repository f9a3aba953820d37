use Rattle.worked_rows.proofs.dumps.is_dumped.Given as goal

abbrev pub ghosts-code_of : goal.ghosts-code_of
ghosts-code_of a = record { name = a.blank.name; parts = a.blank.parts }
