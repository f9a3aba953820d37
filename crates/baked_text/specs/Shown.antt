-- What is seen of a document with insertions: its characters in their order, and how many insertions there are (our own).
use Rattle.std.specs.Prelude.{ℕ, ◌+◌, List, [], ◌++◌, length}
use Rattle.std.specs.List.{flat_map}
use Rattle.bake_definitions.specs.Baked.{Annotated}
use Rattle.bake_definitions.specs.Insertions.{Insertion, inserted_characters}
use Rattle.forest.specs.Forest.{Forest, Empty, Tree, weigh}
use Rattle.plain_types.specs.declared.node.Node.{Node}
use Rattle.plain_types.specs.declared.node.Node.TheVariants.{Element, Text}

abbrev pub own_characters : Node → List ℕ
own_characters (Text characters) = characters
own_characters (Element name attrs) = []

-- the characters of all texts, in the order of the document
abbrev pub characters_in : Forest Node → List ℕ
characters_in Empty = []
characters_in (Tree node children after) = own_characters node ++ (characters_in children ++ characters_in after)

-- a text, or what is in an element between what is put in first and last
abbrev pub with_inserted : Node → List Insertion → List Insertion → List ℕ → List ℕ
with_inserted (Text characters) first last inside = characters ++ inside
with_inserted (Element name attrs) first last inside = flat_map inserted_characters first ++ (inside ++ flat_map inserted_characters last)

-- the characters of a document, with those of each insertion before or behind those of its element
abbrev pub shown_characters : Forest Annotated → List ℕ
shown_characters Empty = []
shown_characters (Tree annotated children after) =
    with_inserted annotated.node annotated.first annotated.last (shown_characters children) ++ shown_characters after

-- the insertions into a node; a text takes none
abbrev pub insertions_into : Node → List Insertion → List Insertion → ℕ
insertions_into (Text characters) first last = 0
insertions_into (Element name attrs) first last = length first + length last

-- how many insertions there are in a document
abbrev pub insertion_count : Forest Annotated → ℕ
insertion_count document = weigh (λ (a : Annotated). insertions_into a.node a.first a.last) document
