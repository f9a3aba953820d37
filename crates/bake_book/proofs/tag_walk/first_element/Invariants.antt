use Rattle.std.proofs.Common.{◌≡◌}
use Rattle.bake_book.specs.Walks.{tree_tags}
use Rattle.forest.specs.Forest.{size}
use Rattle.forest.specs.Spots.{IsLink, on_link}
use Rattle.bake_book.proofs.tag_walk.first_element.Given as goal

abbrev pub invariant-loop-at : goal.invariant-loop-at
invariant-loop-at l = record {
  link : IsLink l.arena.tree l.at;
  tags : tree_tags (on_link l.arena.tree l.at) ≡ tree_tags (on_link l.arena.tree l.fn.link);
}

abbrev pub decreases-loop-at : goal.decreases-loop-at
decreases-loop-at l = size (on_link l.arena.tree l.at)
