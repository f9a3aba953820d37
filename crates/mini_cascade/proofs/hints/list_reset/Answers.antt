use Rattle.std.proofs.Common.{refl}
use Rattle.std.specs.Str.{chars}
use Rattle.mini_cascade.proofs.hints.list_reset.Goals as goal

pub returns : goal.returns
unfolding chars
returns c = rw c.in_ok-from_str.ensures.characters refl
