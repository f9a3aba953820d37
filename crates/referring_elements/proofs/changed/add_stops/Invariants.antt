use Rattle.std.proofs.Common.{◌≡◌, ◌||◌, ℕ, take}
use Rattle.edit_work.specs.KeyedSources.{is_among}
use Rattle.reference_reach.specs.MergedNodes.{elements_at_stops}
use Rattle.referring_elements.proofs.changed.add_stops.Given as goal

abbrev pub invariant-loop-stop : goal.invariant-loop-stop
invariant-loop-stop l = (key : ℕ) → is_among l.found key ≡ (is_among l.initial.found key || is_among (elements_at_stops l.arena.tree (take l.stop-index l.stops)) key)
