use Rattle.std.proofs.Common.{◌≡◌, ◌≤◌, ◌+◌, ◌-◌}
use Rattle.dirty_walk.specs.Books.{fresh_entry}
use Rattle.forest.specs.Forest.{size}
use Rattle.forest.specs.Spots.{IsLink}
use Rattle.marker_engine.proofs.Counting.{census_before, element_weight, nodes_before, total_before}
use Rattle.marker_engine.proofs.census.census_of.Given as goal

abbrev pub invariant-loop-link : goal.invariant-loop-link
invariant-loop-link g l = record {
  link_is : IsLink l.book.tree l.link;
  census : l.census ≡ census_before l.book.tree (fresh_entry l.book) l.link;
  spent : l.steps ≤ l.fn.steps + total_before l.book.tree (element_weight l.book.tree) l.link;
}

abbrev pub decreases-loop-link : goal.decreases-loop-link
decreases-loop-link g l = size l.book.tree - nodes_before l.book.tree l.link
