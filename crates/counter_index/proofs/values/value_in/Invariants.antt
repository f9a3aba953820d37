use Rattle.std.proofs.Common.{◌≡◌, drop}
use Rattle.std.specs.Str.{chars}
use Rattle.box_eval.specs.Properties.{start_in}
use Rattle.counter_index.proofs.values.value_in.Given as goal

abbrev pub invariant-loop-start : goal.invariant-loop-start
invariant-loop-start l = start_in (drop l.start-index l.starts) l.creator (chars l.name) ≡ start_in l.starts l.creator (chars l.name)
