use Rattle.engine_rows.proofs.edits.an_empty_text.Given as goal

abbrev pub ghosts-with_empty_text : goal.ghosts-with_empty_text
ghosts-with_empty_text g a = record { name = a.blank.name; parts = a.blank.parts }
