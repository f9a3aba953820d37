-- The nodes of a tree in tree order, each with its depth.
use Rattle.std.specs.Prelude.{◌≡◌, ℕ, zero, suc, ◌+◌, List, [], ◌∷◌, ◌++◌}
use Rattle.forest.specs.Forest.{Forest, Empty, Tree}
use Rattle.plain_types.specs.Tree.{IsTree}
use Rattle.plain_types.specs.declared.node.Node.{Node}
use Rattle.plain_types.specs.declared.row.Row.{Row}

-- a node at a depth
abbrev pub row : ℕ → Node → Row
row depth node = record { depth = depth; node = node }

-- the nodes in tree order, where the roots have this depth
abbrev pub rows : ℕ → Forest Node → List Row
rows depth Empty = []
rows depth (Tree node children after) = row depth node ∷ (rows (depth + 1) children ++ rows depth after)

-- The way back, from the last row to the first: for each depth the trees that wait for a parent.

-- the trees that wait at a depth
abbrev pub at_depth : ℕ → List (Forest Node) → Forest Node
at_depth depth [] = Empty
at_depth zero (trees ∷ deeper) = trees
at_depth (suc depth) (trees ∷ deeper) = at_depth depth deeper

-- a node comes before them: what waits below its depth are its children
abbrev pub put : ℕ → Node → List (Forest Node) → List (Forest Node)
put zero node waits = Tree node (at_depth 1 waits) (at_depth 0 waits) ∷ []
put (suc depth) node [] = Empty ∷ put depth node []
put (suc depth) node (trees ∷ deeper) = trees ∷ put depth node deeper

-- the trees that wait once these rows are done
abbrev pub waiting : List Row → List (Forest Node)
waiting [] = []
waiting (first ∷ rest) = put first.depth first.node (waiting rest)

-- the forest that rows spell
abbrev pub forest_of : List Row → Forest Node
forest_of all = at_depth 0 (waiting all)

-- these are the rows of a tree
pub record IsSpelled (all : List Row) : Type 0 where
  pub spelled : rows 0 (forest_of all) ≡ all
  pub tree : IsTree (forest_of all)
