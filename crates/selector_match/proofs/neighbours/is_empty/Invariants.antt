use Rattle.std.proofs.Common.{◌≡◌}
use Rattle.forest.specs.Forest.{size}
use Rattle.forest.specs.Keys.{without_keys}
use Rattle.forest.specs.Spots.{IsLink, on_link, children_of}
use Rattle.selector_match.specs.Elements.{are_nothing}
use Rattle.selector_match.proofs.neighbours.is_empty.Given as goal

abbrev pub invariant-children : goal.invariant-children
invariant-children l = record {
  link : IsLink l.arena.tree l.child;
  nothing : are_nothing (without_keys (on_link l.arena.tree l.child)) ≡ are_nothing (without_keys (children_of l.arena.tree l.fn.key));
}

abbrev pub decreases-children : goal.decreases-children
decreases-children l = size (on_link l.arena.tree l.child)
