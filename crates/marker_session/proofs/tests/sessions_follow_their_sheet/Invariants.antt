-- The count is of the ledger that the blank makes.
use Rattle.marker_session.proofs.tests.sessions_follow_their_sheet.Given as goal

abbrev pub ghosts-restyled : goal.ghosts-restyled
ghosts-restyled g a = record { name = a.blank.name; parts = a.blank.parts }
