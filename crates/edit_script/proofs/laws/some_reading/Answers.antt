use Rattle.edit_script.proofs.TotalLaws.{some_reading}
use Rattle.edit_script.proofs.laws.some_reading.Goals as goal

pub returns : goal.returns
returns c = some_reading
