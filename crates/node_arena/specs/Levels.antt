-- Nodes that are in equally many nodes.
use Rattle.std.specs.Prelude.{◌≡◌, ◌≢◌, ℕ, Some}
use Rattle.forest.specs.Forest.{Forest}
use Rattle.forest.specs.Keys.{Keyed}
use Rattle.forest.specs.Spots.{parent_of}
use Rattle.plain_types.specs.declared.node.Node.{Node}

-- the two nodes have these parents, two different ones
pub record AreDistinctParents (tree : Forest (Keyed Node)) (first second : ℕ) (parents : ℕ × ℕ) : Type 0 where
  pub first_parent : parent_of tree first ≡ Some parents.0
  pub second_parent : parent_of tree second ≡ Some parents.1
  pub differ : parents.0 ≢ parents.1
