use Rattle.evaluation_rows.proofs.cascade.is_styled.Given as goal

abbrev pub ghosts-shown_style : goal.ghosts-shown_style
ghosts-shown_style l = record { name = l.blank.name; parts = l.blank.parts }
