use Rattle.std.proofs.Common.{◌≡◌, drop}
use Rattle.std.specs.Str.{chars}
use Rattle.scope_deeds.specs.Reversed.{is_start_of}
use Rattle.counter_index.proofs.touched.is_start_of.Given as goal

abbrev pub invariant-loop-start : goal.invariant-loop-start
invariant-loop-start l = is_start_of l.creator (chars l.name) (drop l.start-index l.starts) ≡ is_start_of l.creator (chars l.name) l.starts
