use Rattle.zero_walks.proofs.tests.what_is_put_is_there.Given as goal

abbrev pub ghosts-all_come_out : goal.ghosts-all_come_out
ghosts-all_come_out l a = record { name = a.blank.name; parts = a.blank.parts }
