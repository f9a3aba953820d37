use Rattle.engine_rows.proofs.engines.come_out.Given as goal

abbrev pub ghosts-are_numbers : goal.ghosts-are_numbers
ghosts-are_numbers a = record { name = a.blank.name; parts = a.blank.parts }
