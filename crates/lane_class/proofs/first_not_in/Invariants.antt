use Rattle.std.proofs.Common.{◌≤◌, ◌-◌, length}
use Rattle.lane_class.specs.Ranges.{is_outside}
use Rattle.lane_class.proofs.PlaceLaws.{NoneBefore}
use Rattle.lane_class.proofs.first_not_in.Given as goal

abbrev pub invariant-far : goal.invariant-far
invariant-far l = record { within : l.start ≤ length l.bytes; none : NoneBefore (is_outside l.class) l.bytes l.start }

abbrev pub decreases-far : goal.decreases-far
decreases-far l = length l.bytes - l.start
