use Rattle.edit_inverses.proofs.InverseLaws.{inverses_allowed}
use Rattle.edit_inverses.proofs.laws.inverses_are_allowed.Goals as goal

pub returns : goal.returns
returns c = record { allowed = inverses_allowed }
