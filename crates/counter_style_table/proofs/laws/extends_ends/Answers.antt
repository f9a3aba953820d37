use Rattle.std.specs.Str.{chars}
use Rattle.counter_style_table.proofs.FinishedLemmas.{cycle-enough, styles-enough}
use Rattle.counter_style_table.proofs.laws.extends_ends.Goals as goal

pub returns : goal.returns
returns c = record {
  cycle = cycle-enough c.args.rules.now (chars c.args.name.now) c.args.more;
  styles = styles-enough c.args.rules.now (chars c.args.name.now) c.args.more;
}
