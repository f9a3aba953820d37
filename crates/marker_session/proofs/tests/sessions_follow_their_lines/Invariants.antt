-- The count is of the ledger that the blank makes.
use Rattle.marker_session.proofs.tests.sessions_follow_their_lines.Given as goal

abbrev pub ghosts-edited : goal.ghosts-edited
ghosts-edited g a = record { name = a.blank.name; parts = a.blank.parts }
