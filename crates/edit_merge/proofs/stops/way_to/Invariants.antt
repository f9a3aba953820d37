use Rattle.std.proofs.Common.{take}
use Rattle.edit_merge.proofs.ApproachLaws.{IsOnWay}
use Rattle.edit_merge.proofs.stops.way_to.Given as goal

abbrev pub invariant-loop-position : goal.invariant-loop-position
invariant-loop-position l = IsOnWay l.arena.tree (take l.position-index l.path) l.stops.items l.link
