use Rattle.std.specs.Str.{chars}
use Rattle.counter_style_table.proofs.predefined.predefined_rules.Goals as goal

pub returns : goal.returns
unfolding chars
returns c = c.rules_of.ensures
