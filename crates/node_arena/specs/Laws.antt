-- Laws of keyed trees, without any arena.
use Rattle.std.specs.Prelude.{◌≡◌, ◌≢◌, ℕ, ◌⊎◌, List, All, Some, map}
use Rattle.forest.specs.Forest.{Forest}
use Rattle.forest.specs.Keys.{Keyed, keys}
use Rattle.forest.specs.Places.{Place, places}
use Rattle.forest.specs.Spots.{IsLive}
use Rattle.forest.specs.Paths.{key_at, path_of}
use Rattle.forest.specs.Order.{Precedes}
use Rattle.plain_types.specs.declared.node.Node.{Node}
use Rattle.node_arena.specs.Document.{IsKeyedDocument}

-- each node has a path, which leads to it
abbrev pub EachNodeHasAPath : Forest (Keyed Node) → Type 0
EachNodeHasAPath tree = (key : ℕ) → IsLive tree key → key_at tree (path_of tree key) ≡ Some key

-- a path that leads to a node is the path of that node, and of no other
abbrev pub EachPathIsItsNodes : Forest (Keyed Node) → Type 0
EachPathIsItsNodes tree = (path : List ℕ) (key : ℕ) → key_at tree path ≡ Some key → IsLive tree key × (path_of tree key ≡ path)

-- of two different nodes one precedes the other
abbrev pub IsOrderTotal : Forest (Keyed Node) → Type 0
IsOrderTotal tree = (first second : ℕ) → IsLive tree first → IsLive tree second → first ≢ second → Precedes tree first second ⊎ Precedes tree second first

-- and the other does not precede it
abbrev pub IsOrderStrict : Forest (Keyed Node) → Type 0
IsOrderStrict tree = (first second : ℕ) → Precedes tree first second → Precedes tree second first → ⊥

abbrev pub IsOrderTransitive : Forest (Keyed Node) → Type 0
IsOrderTransitive tree = (first second third : ℕ) → Precedes tree first second → Precedes tree second third → Precedes tree first third

-- the places of a document, in tree order, are those of its keys, each with the node's path
pub record ArePlacesByKey (tree : Forest (Keyed Node)) : Type 0 where
  pub in_order : map (λ (place : Place (Keyed Node)). place.label.key) (places tree) ≡ keys tree
  pub by_path : All (λ (place : Place (Keyed Node)). path_of tree place.label.key ≡ place.path) (places tree)

abbrev pub OfEachDocument : (Forest (Keyed Node) → Type 0) → Type 0
OfEachDocument law = (tree : Forest (Keyed Node)) → IsKeyedDocument tree → law tree
