use Rattle.cascade_rows.proofs.styling.is_styled.Given as goal

abbrev pub ghosts-told_styles : goal.ghosts-told_styles
ghosts-told_styles l = record { name = l.blank.name; parts = l.blank.parts }
