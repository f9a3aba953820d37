use Rattle.surroundings.proofs.Said.{sound}
use Rattle.surroundings.proofs.laws.styled_evaluator_is_sound.Goals as goal

pub returns : goal.returns
returns c = record { sound = sound }
