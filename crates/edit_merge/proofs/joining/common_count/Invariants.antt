use Rattle.std.proofs.Common.{length, ◌-◌}
use Rattle.edit_merge.proofs.JoiningLaws.{IsJoined}
use Rattle.edit_merge.proofs.joining.common_count.Given as goal

abbrev pub invariant-common : goal.invariant-common
invariant-common l = IsJoined l.stops l.others l.count

abbrev pub decreases-common : goal.decreases-common
decreases-common l = length l.stops - l.count
