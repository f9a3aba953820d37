use Rattle.std.proofs.Common.{◌≡◌, ◌++◌, drop, map}
use Rattle.box_eval.specs.Lookups.{created}
use Rattle.box_eval.specs.Properties.{last_resets}
use Rattle.box_eval.proofs.counting_many.created_by.Given as goal

abbrev pub invariant-loop-place : goal.invariant-loop-place
invariant-loop-place l = l.counters.items ++ map (created l.starts.0 l.starts.1) (last_resets (drop l.place l.resets)) ≡ map (created l.starts.0 l.starts.1) (last_resets l.resets)
