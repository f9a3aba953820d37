use Rattle.std.proofs.Common.{◌≡◌, drop}
use Rattle.merged_walk.specs.EditStops.{is_before}
use Rattle.edit_merge.proofs.places.is_before.Given as goal

abbrev pub invariant-loop-index : goal.invariant-loop-index
invariant-loop-index l = is_before l.path l.place ≡ is_before (drop l.index l.path) (drop l.index l.place)
