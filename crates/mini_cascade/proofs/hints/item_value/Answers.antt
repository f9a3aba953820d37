use Rattle.std.proofs.Common.{rules}
use Rattle.std.specs.Str.{chars}
use Rattle.mini_cascade.proofs.hints.item_value.Goals as goal

pub returns : goal.returns
unfolding chars
returns c = rw c.in_ok-from_str.ensures.characters (search rules)
