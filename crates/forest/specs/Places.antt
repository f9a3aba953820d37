-- Where the nodes of a document stand.
use Rattle.std.specs.Prelude.{ℕ, List, [], ◌∷◌, ◌++◌, length}
use Rattle.forest.specs.Forest.{Forest, Empty, Tree}

-- A node's place: its path, its label, and the labels of its siblings before it, from the first. A path
-- (our own) has for each step down from the root the position of a child, from 0; every child counts.
pub record Place (L : Type 0) : Type 0 where
  pub path : List ℕ
  pub label : L
  pub earlier : List L

module _ {L : Type 0} where
  -- the path of the child that has this many siblings before it
  abbrev pub child_path : List ℕ → List L → List ℕ
  child_path parent earlier = parent ++ length earlier ∷ []

  -- the places of the nodes of a forest, in tree order, where its trees are those children of the node
  -- at this path that come after these siblings
  abbrev pub places_under : List ℕ → List L → Forest L → List (Place L)
  places_under parent earlier Empty = []
  places_under parent earlier (Tree label children after) =
      record { path = child_path parent earlier; label = label; earlier = earlier }
      ∷ (places_under (child_path parent earlier) [] children ++ places_under parent (earlier ++ label ∷ []) after)

  -- the places of the nodes of a document, which is one tree, in tree order
  abbrev pub places : Forest L → List (Place L)
  places Empty = []
  places (Tree root children after) = record { path = []; label = root; earlier = [] } ∷ places_under [] [] children
