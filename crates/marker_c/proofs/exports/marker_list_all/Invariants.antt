-- The count is of the ledger that the blank makes.
use Rattle.marker_c.proofs.exports.marker_list_all.Given as goal

abbrev pub ghosts-list_all : goal.ghosts-list_all
ghosts-list_all a = record { name = a.blank.name; parts = a.blank.parts }
