use Rattle.snapshot_board.proofs.tests.rows_come_out.Given as goal

abbrev pub ghosts-first_wrong : goal.ghosts-first_wrong
ghosts-first_wrong l a = record { name = a.blank.name; parts = a.blank.parts }
