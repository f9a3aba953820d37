use Rattle.std.proofs.Common.{◌≡◌}
use Rattle.forest.specs.Forest.{size}
use Rattle.forest.specs.Spots.{IsLink, on_link}
use Rattle.merged_walk.specs.Stops.{first_element}
use Rattle.edit_merge.specs.EditMerges.{is_element}
use Rattle.edit_merge.proofs.stops.first_element.Given as goal

abbrev pub invariant-siblings : goal.invariant-siblings
invariant-siblings l = record {
  live : IsLink l.arena.tree l.at;
  same : first_element is_element (on_link l.arena.tree l.fn.link) ≡ first_element is_element (on_link l.arena.tree l.at);
}

abbrev pub decreases-siblings : goal.decreases-siblings
decreases-siblings l = size (on_link l.arena.tree l.at)
