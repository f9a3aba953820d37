use Rattle.std.proofs.Common.{refl}
use Rattle.std.specs.Str.{chars}
use Rattle.mini_cascade.proofs.defaulting.initial_values.Goals as goal

pub returns : goal.returns
unfolding chars
returns c = rw (c.new.ensures.empty, c.new-2.ensures.empty, c.new-3.ensures.empty, c.in_ok-from_str.ensures.characters) refl
