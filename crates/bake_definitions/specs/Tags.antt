-- The tags of a document, with what is put in at them (our own).
use Rattle.std.specs.Prelude.{ℕ, List, [], ◌∷◌, ◌++◌, get_or}
use Rattle.bake_definitions.specs.Baked.{Annotated}
use Rattle.bake_definitions.specs.Insertions.{Insertion}
use Rattle.forest.specs.Forest.{Forest, Empty, Tree}
use Rattle.plain_types.specs.declared.node.Node.{Node}
use Rattle.plain_types.specs.declared.node.Node.TheVariants.{Element, Text}

-- a tag that begins an element, or that ends it: the element's name, and what is put in behind the one, before the other
pub record Tag : Type 0 where
  pub name : List ℕ
  pub insertions : List Insertion

abbrev pub tag : List ℕ → List Insertion → Tag
tag name insertions = record { name = name; insertions = insertions }

-- the tags of a node, round those of its content; a text has none
abbrev pub tags_round : Node → List Insertion → List Insertion → List Tag → List Tag
tags_round (Text characters) first last inside = inside
tags_round (Element name attrs) first last inside = tag name first ∷ (inside ++ tag name last ∷ [])

-- the tags of a document, in their order
abbrev pub tags_of : Forest Annotated → List Tag
tags_of Empty = []
tags_of (Tree annotated children after) = tags_round annotated.node annotated.first annotated.last (tags_of children) ++ tags_of after

-- the next of these tags; behind the last one without a name, at which nothing is put in
abbrev pub next_tag : List Tag → Tag
next_tag tags = get_or tags 0 (tag [] [])
