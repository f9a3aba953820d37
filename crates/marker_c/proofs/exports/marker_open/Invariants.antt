-- The count is of the ledger that the blank makes.
use Rattle.marker_c.proofs.exports.marker_open.Given as goal

abbrev pub ghosts-open : goal.ghosts-open
ghosts-open a = record { name = a.blank.name; parts = a.blank.parts }
