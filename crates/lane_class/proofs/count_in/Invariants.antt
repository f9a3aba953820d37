use Rattle.std.proofs.Common.{◌≡◌, ◌≤◌, ◌-◌, length, take}
use Rattle.std.specs.List.{count_by}
use Rattle.lane_class.specs.Ranges.{is_in}
use Rattle.lane_class.proofs.count_in.Given as goal

abbrev pub invariant-far : goal.invariant-far
invariant-far l = record { within : l.start ≤ length l.bytes; counted : l.count ≡ count_by (is_in l.class) (take l.start l.bytes) }

abbrev pub decreases-far : goal.decreases-far
decreases-far l = length l.bytes - l.start
