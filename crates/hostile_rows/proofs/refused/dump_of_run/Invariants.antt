use Rattle.hostile_rows.proofs.refused.dump_of_run.Given as goal

abbrev pub ghosts-dump_after : goal.ghosts-dump_after
ghosts-dump_after a = record { name = a.blank.name; parts = a.blank.parts }
