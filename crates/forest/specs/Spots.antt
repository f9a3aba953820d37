-- Where the nodes of a keyed forest stand. The terms are those of DOM, 1.1 "Trees".
use Rattle.std.specs.Prelude.{ℕ, ◌-◌, ◌==◌, if◌then◌else◌, List, [], ◌∷◌, ◌++◌, length, map, Option, Some, None, IsSome, option_map, option_and_then, unwrap_or, slice_get}
use Rattle.std.specs.Option.{option_or}
use Rattle.forest.specs.Forest.{Forest, Empty, Tree}
use Rattle.forest.specs.Keys.{Keyed}

-- what is around a node: its parent, its siblings before it, its label, its children, and the trees of
-- its siblings after it
pub record Spot (L : Type 0) : Type 0 where
  pub parent : Option ℕ
  pub earlier : List (Keyed L)
  pub label : L
  pub children : Forest (Keyed L)
  pub after : Forest (Keyed L)

-- the labels of the roots
abbrev pub roots : {L : Type 0} → Forest L → List L
roots Empty = []
roots (Tree label children after) = label ∷ roots after

module _ {L : Type 0} where
  abbrev pub keyed : ℕ → L → Keyed L
  keyed key label = record { key = key; label = label }

  -- the keys of the roots
  abbrev pub root_keys : Forest (Keyed L) → List ℕ
  root_keys forest = map (λ (node : Keyed L). node.key) (roots forest)

  -- the key of the first root
  abbrev pub first_key : Forest (Keyed L) → Option ℕ
  first_key Empty = None
  first_key (Tree node children after) = Some node.key

  -- where a node stands, in a forest whose roots have this parent and come after these siblings
  abbrev pub spot : Option ℕ → List (Keyed L) → Forest (Keyed L) → ℕ → Option (Spot L)
  spot parent earlier Empty key = None
  spot parent earlier (Tree node children after) key =
      if node.key == key then Some (record { parent = parent; earlier = earlier; label = node.label; children = children; after = after })
      else option_or (spot (Some node.key) [] children key) (spot parent (earlier ++ node ∷ []) after key)

  -- where a node of a document stands
  abbrev pub spot_of : Forest (Keyed L) → ℕ → Option (Spot L)
  spot_of forest key = spot None [] forest key

  -- a node of the document has this key
  abbrev pub IsLive : Forest (Keyed L) → ℕ → Type 0
  IsLive forest key = IsSome (spot_of forest key)

  -- What a document says of a key. Of one that no node has it says nothing.

  abbrev pub label_of : Forest (Keyed L) → ℕ → Option L
  label_of forest key = option_map (λ (s : Spot L). s.label) (spot_of forest key)

  abbrev pub parent_of : Forest (Keyed L) → ℕ → Option ℕ
  parent_of forest key = option_and_then (λ (s : Spot L). s.parent) (spot_of forest key)

  -- its siblings before it, from the first
  abbrev pub earlier_of : Forest (Keyed L) → ℕ → List (Keyed L)
  earlier_of forest key = unwrap_or (option_map (λ (s : Spot L). s.earlier) (spot_of forest key)) []

  abbrev pub children_of : Forest (Keyed L) → ℕ → Forest (Keyed L)
  children_of forest key = unwrap_or (option_map (λ (s : Spot L). s.children) (spot_of forest key)) Empty

  -- the trees of its siblings after it
  abbrev pub after_of : Forest (Keyed L) → ℕ → Forest (Keyed L)
  after_of forest key = unwrap_or (option_map (λ (s : Spot L). s.after) (spot_of forest key)) Empty

  -- its index: how many siblings it has before it
  abbrev pub index_of : Forest (Keyed L) → ℕ → ℕ
  index_of forest key = length (earlier_of forest key)

  abbrev pub child_count_of : Forest (Keyed L) → ℕ → ℕ
  child_count_of forest key = length (root_keys (children_of forest key))

  -- its child of this index
  abbrev pub child_of : Forest (Keyed L) → ℕ → ℕ → Option ℕ
  child_of forest key index = slice_get (root_keys (children_of forest key)) index

  abbrev pub first_child_of : Forest (Keyed L) → ℕ → Option ℕ
  first_child_of forest key = first_key (children_of forest key)

  abbrev pub last_child_of : Forest (Keyed L) → ℕ → Option ℕ
  last_child_of forest key = child_of forest key (child_count_of forest key - 1)

  abbrev pub next_sibling_of : Forest (Keyed L) → ℕ → Option ℕ
  next_sibling_of forest key = first_key (after_of forest key)

  abbrev pub previous_sibling_of : Forest (Keyed L) → ℕ → Option ℕ
  previous_sibling_of forest key = slice_get (map (λ (node : Keyed L). node.key) (earlier_of forest key)) (index_of forest key - 1)

  -- A link names a node, or nothing.

  abbrev pub IsLink : Forest (Keyed L) → Option ℕ → Type 0
  IsLink forest None = Unit {0}
  IsLink forest (Some key) = IsLive forest key

  abbrev pub tree_of : ℕ → Option (Spot L) → Forest (Keyed L)
  tree_of key None = Empty
  tree_of key (Some s) = Tree (keyed key s.label) s.children s.after

  -- the tree of the node that a link names, and the trees of its siblings after it
  abbrev pub on_link : Forest (Keyed L) → Option ℕ → Forest (Keyed L)
  on_link forest None = Empty
  on_link forest (Some key) = tree_of key (spot_of forest key)
