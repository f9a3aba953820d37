-- How many elements there are (our own).
use Rattle.std.specs.Prelude.{ℕ, Bool, cond, is_some}
use Rattle.forest.specs.Forest.{Forest, weigh}
use Rattle.plain_types.specs.declared.node.Node.{Node}
use Rattle.node_arena.specs.Nodes.{node_name}

-- 1 where this holds
abbrev pub one_where : Bool → ℕ
one_where holds = cond holds 1 0

-- the elements of trees: a node is one where it has a name
abbrev pub element_count : Forest Node → ℕ
element_count trees = weigh (λ (node : Node). one_where (is_some (node_name node))) trees
