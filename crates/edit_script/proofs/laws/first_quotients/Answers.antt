use Rattle.std.proofs.Common.{refl}
use Rattle.edit_script.specs.Draws.{quotients}
use Rattle.edit_script.proofs.laws.first_quotients.Goals as goal

pub returns : goal.returns
unfolding quotients
returns c = refl
