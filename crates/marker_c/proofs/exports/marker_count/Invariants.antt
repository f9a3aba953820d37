-- The count is of the ledger that the blank makes.
use Rattle.marker_c.proofs.exports.marker_count.Given as goal

abbrev pub ghosts-count : goal.ghosts-count
ghosts-count a = record { name = a.blank.name; parts = a.blank.parts }
