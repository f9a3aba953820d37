-- The count is of the ledger that the blank makes.
use Rattle.marker_session.proofs.tests.faults_have_their_place.Given as goal

abbrev pub ghosts-faults : goal.ghosts-faults
ghosts-faults g a = record { name = a.blank.name; parts = a.blank.parts }
