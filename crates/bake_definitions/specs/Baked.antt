-- The tree with the insertions, and without them (our own).
use Rattle.std.specs.Prelude.{ℕ, Bool, false, ◌&&◌, ◌==◌, cond, List, [], ◌∷◌, codes, length, map}
use Rattle.std.specs.List.{list_any}
use Rattle.std.specs.Str.{bytes_eq}
use Rattle.bake_definitions.specs.Insertions.{Insertion, class_of, inserted_attrs, inserted_characters, inserted_name}
use Rattle.forest.specs.Forest.{Forest, Empty, Tree, map_labels}
use Rattle.plain_types.specs.declared.box_kind.BoxKind.TheVariants as kinds
use Rattle.plain_types.specs.declared.node.Node.{Node}
use Rattle.plain_types.specs.declared.node.Node.TheVariants.{Element, Text}
use Rattle.xml_definitions.specs.Nodes.{then_characters}

-- a node of a document, what is put in first in its content, and what last
pub record Annotated : Type 0 where
  pub node : Node
  pub first : List Insertion
  pub last : List Insertion

-- the document into which nothing is put
abbrev pub without_insertions : Forest Annotated → Forest Node
without_insertions document = map_labels (λ (annotated : Annotated). annotated.node) document

-- nothing is put into it
abbrev pub is_bare : Annotated → Bool
is_bare annotated = length annotated.first == 0 && length annotated.last == 0

-- trees, and others after them
abbrev pub followed_by : {L : Type 0} → Forest L → Forest L → Forest L
followed_by Empty trees = trees
followed_by (Tree label children after) trees = Tree label children (followed_by after trees)

-- an element for each of the insertions into an element of this name, and then these trees
abbrev pub insertions_before : List ℕ → List Insertion → Forest Node → Forest Node
insertions_before name [] trees = trees
insertions_before name (insertion ∷ insertions) trees =
    Tree (Element (inserted_name name) (inserted_attrs insertion.kind)) (then_characters Empty (inserted_characters insertion))
    (insertions_before name insertions trees)

-- the content of a node with what is put in first and last; a text takes nothing
abbrev pub filled : Node → List Insertion → List Insertion → Forest Node → Forest Node
filled (Text characters) first last content = content
filled (Element name attrs) first last content = insertions_before name first (followed_by content (insertions_before name last Empty))

-- The baked tree: each element with what is put into it.
abbrev pub baked : Forest Annotated → Forest Node
baked Empty = Empty
baked (Tree annotated children after) =
    Tree annotated.node (filled annotated.node annotated.first annotated.last (baked children)) (baked after)

-- the classes of inserted elements
abbrev pub classes : List (List ℕ)
classes = map class_of (kinds.Element ∷ kinds.Marker ∷ kinds.Before ∷ kinds.After ∷ [])

-- an element as it is put in, whatever its name: it has a class of ours, and no other attribute
abbrev pub is_inserted : Node → Bool
is_inserted (Text characters) = false
is_inserted (Element name []) = false
is_inserted (Element name (attr ∷ [])) = bytes_eq attr.name (codes "class") && list_any (bytes_eq attr.value) classes
is_inserted (Element name (first ∷ second ∷ attrs)) = false

-- the tree without such elements, and without all that is in them
abbrev pub taken_out : Forest Node → Forest Node
taken_out Empty = Empty
taken_out (Tree node children after) = cond (is_inserted node) (taken_out after) (Tree node (taken_out children) (taken_out after))
