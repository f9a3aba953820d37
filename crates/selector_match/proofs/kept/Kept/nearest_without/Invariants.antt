use Rattle.std.proofs.Common.{length}
use Rattle.forest.specs.Spots.{IsLive}
use Rattle.selector_match.specs.Elements.{ancestors}
use Rattle.selector_match.specs.Machinery.Lookups.{IsElement, standing_at}
use Rattle.selector_match.proofs.kept.Kept.nearest_without.Given as goal

abbrev pub invariant-up : goal.invariant-up
invariant-up l = IsLive l.arena.tree l.at × IsElement l.arena.tree l.at

abbrev pub decreases-up : goal.decreases-up
decreases-up l = length (ancestors (standing_at l.arena.tree l.at))
