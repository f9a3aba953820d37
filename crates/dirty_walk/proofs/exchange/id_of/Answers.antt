use Rattle.std.proofs.Common.{◌∙◌, Some, ap}
use Rattle.std.specs.Str.{chars}
use Rattle.dirty_walk.proofs.exchange.id_of.Goals as goal

pub returns-in_ok-from_str-in-Some : goal.returns-in_ok-from_str-in-Some
unfolding chars
returns-in_ok-from_str-in-Some c = record { id = ap Some c.in_ok-from_str-in-Some.ensures.characters ∙ c.in-Some.ensures.characters }

pub returns-in-None : goal.returns-in-None
unfolding chars
returns-in-None c = record { id = c.in-None.ensures.characters }
