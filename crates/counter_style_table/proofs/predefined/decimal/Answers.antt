use Rattle.std.proofs.Common.{rules}
use Rattle.std.specs.Str.{chars}
use Rattle.counter_style_table.proofs.predefined.decimal.Goals as goal

pub returns : goal.returns
unfolding chars
returns c = search rules
