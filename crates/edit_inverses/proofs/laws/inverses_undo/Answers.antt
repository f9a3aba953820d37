use Rattle.edit_inverses.proofs.InverseLaws.{inverses_undo, inverses_undo_sheets}
use Rattle.edit_inverses.proofs.laws.inverses_undo.Goals as goal

pub returns : goal.returns
returns c = record { document = inverses_undo; sheet = inverses_undo_sheets }
