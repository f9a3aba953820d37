-- The count is of the ledger that the blank makes.
use Rattle.marker_c.proofs.exports.marker_replace_sheet.Given as goal

abbrev pub ghosts-replace_sheet : goal.ghosts-replace_sheet
ghosts-replace_sheet a = record { name = a.blank.name; parts = a.blank.parts }
