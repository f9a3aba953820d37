use Rattle.surroundings.proofs.SameLaws.{handed-Decides, surroundings-Decides}
use Rattle.surroundings.proofs.laws.tests_tell_what_is_handed.Goals as goal

pub returns : goal.returns
returns c = record { some = surroundings-Decides; options = handed-Decides }
