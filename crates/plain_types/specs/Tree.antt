-- What a tree of nodes is.
use Rattle.std.specs.Prelude.{◌≡◌, ◌≢◌, List}
use Rattle.std.specs.List.{AllPairs}
use Rattle.forest.specs.Forest.{Forest, Empty, Tree}
use Rattle.plain_types.specs.declared.attr.Attr.{Attr}
use Rattle.plain_types.specs.declared.node.Node.{Node}
use Rattle.plain_types.specs.declared.node.Node.TheVariants.{Element, Text}

-- XML 1.0, 3.1 "Unique Att Spec": no two attributes of an element have one name
abbrev pub HasDistinctNames : List Attr → Type 0
HasDistinctNames attrs = AllPairs (λ (first second : Attr). first.name ≢ second.name) attrs

-- the attributes of each element have distinct names, and no text has children
abbrev pub AreSound : Forest Node → Type 0
AreSound Empty = Unit {0}
AreSound (Tree (Element name attrs) children after) = HasDistinctNames attrs × AreSound children × AreSound after
AreSound (Tree (Text characters) children after) = (children ≡ Empty) × AreSound after

-- there is one tree
abbrev pub IsOne : Forest Node → Type 0
IsOne Empty = ⊥
IsOne (Tree root children after) = after ≡ Empty

-- what every tree is
pub record IsTree (forest : Forest Node) : Type 0 where
  pub one : IsOne forest
  pub sound : AreSound forest
