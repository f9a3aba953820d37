use Rattle.std.proofs.Common.{length}
use Rattle.std.specs.List.{All}
use Rattle.selector_match.specs.Elements.{ancestors}
use Rattle.selector_match.specs.Machinery.Lookups.{IsElementThere, standing_at}
use Rattle.selector_match.proofs.filling.lacking.Given as goal

abbrev pub invariant-up : goal.invariant-up
invariant-up l = IsElementThere l.arena.tree l.at × All (IsElementThere l.arena.tree) l.path.items

abbrev pub decreases-up : goal.decreases-up
decreases-up l = length (ancestors (standing_at l.arena.tree l.at))
