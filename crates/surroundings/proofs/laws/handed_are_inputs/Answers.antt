use Rattle.surroundings.proofs.InputLaws.{inputs-document}
use Rattle.surroundings.proofs.laws.handed_are_inputs.Goals as goal

pub returns : goal.returns
returns c = record { inputs = inputs-document }
