-- What holds of each node of a document, found by its key.
use Rattle.std.proofs.Common.{◌≡◌, ℕ, List, [], ◌∷◌, ◌++◌, Option, Some}
use Rattle.forest.proofs.SpotLaws.{distinct-parts, spot-below, spot-beside, spot-root}
use Rattle.forest.specs.Forest.{Forest, Empty, Tree}
use Rattle.forest.specs.Keys.{HasDistinctKeys, Keyed}
use Rattle.forest.specs.Spots.{Spot, spot}
use Rattle.plain_types.specs.declared.node.Node.{Node}

module _ (Holds : ℕ → Node → Type 0) where
  abbrev pub OfEachNode : Forest (Keyed Node) → Type 0
  OfEachNode Empty = Unit {0}
  OfEachNode (Tree node children after) = Holds node.key node.label × (OfEachNode children × OfEachNode after)

  pub each_by_spots : (parent : Option ℕ) (earlier : List (Keyed Node)) (trees : Forest (Keyed Node)) → HasDistinctKeys trees
      → ((key : ℕ) (s : Spot Node) → spot parent earlier trees key ≡ Some s → Holds key s.label) → OfEachNode trees
  each_by_spots parent earlier Empty distinct h = tt
  each_by_spots parent earlier (Tree node children after) distinct h =
      let parts = distinct-parts node children after distinct in (
        h node.key _ (spot-root parent earlier node children after),
        (
          each_by_spots (Some node.key) [] children parts.0 (λ key s is. h key s (spot-below parent earlier node children after key s distinct is)),
          each_by_spots parent (earlier ++ node ∷ []) after parts.1 (λ key s is. h key s (spot-beside parent earlier node children after key s distinct is)),
        ),
      )
