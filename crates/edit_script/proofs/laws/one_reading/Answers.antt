use Rattle.edit_script.proofs.OneLaws.{one_reading}
use Rattle.edit_script.proofs.laws.one_reading.Goals as goal

pub returns : goal.returns
returns c = λ kind text reading other is too. one_reading kind text reading other is too
