-- Trees whose nodes have keys.
use Rattle.std.specs.Prelude.{ℕ, ◌+◌, ◌≤◌, ◌==◌, if◌then◌else◌, List, map, refl}
use Rattle.std.specs.Coded.{Coded, code_by, coded×, coded_ℕ}
use Rattle.forest.specs.Forest.{Forest, Empty, Tree, labels, map_labels, size, weigh}

-- a label, and the number by which its node is named
pub record Keyed (L : Type 0) : Type 0 where
  pub key : ℕ
  pub label : L

module _ {L : Type 0} where
  -- the keys in tree order
  abbrev pub keys : Forest (Keyed L) → List ℕ
  keys forest = map (λ (node : Keyed L). node.key) (labels forest)

  -- how many nodes have this key
  abbrev pub times : ℕ → Forest (Keyed L) → ℕ
  times key forest = weigh (λ (node : Keyed L). if node.key == key then 1 else 0) forest

  -- no two nodes have one key
  abbrev pub HasDistinctKeys : Forest (Keyed L) → Type 0
  HasDistinctKeys forest = (key : ℕ) → times key forest ≤ 1

  -- the forest without its keys
  abbrev pub without_keys : Forest (Keyed L) → Forest L
  without_keys forest = map_labels (λ (node : Keyed L). node.label) forest

  -- each node's key is its place in tree order, where the first node has this one
  abbrev pub numbered : ℕ → Forest L → Forest (Keyed L)
  numbered place Empty = Empty
  numbered place (Tree label children after) = Tree (record { key = place; label = label }) (numbered (place + 1) children) (numbered (place + 1 + size children) after)

-- a keyed label is stored as its key and its label
abbrev pub coded_keyed : {L : Type 0} → Coded L → Coded (Keyed L)
coded_keyed {L} coded = code_by (ℕ × L) (coded× coded_ℕ coded) (λ node. (node.key, node.label)) (λ pair. record { key = pair.0; label = pair.1 }) (λ _. refl)
