-- Trees of nodes as a document's text builds them, from the first node to the last.
use Rattle.std.specs.Prelude.{ℕ, List, [], ◌∷◌, ◌++◌}
use Rattle.forest.specs.Forest.{Forest, Empty, Tree, then_tree}
use Rattle.plain_types.specs.declared.attr.Attr.{Attr}
use Rattle.plain_types.specs.declared.node.Node.{Node}
use Rattle.plain_types.specs.declared.node.Node.TheVariants.{Element, Text}

-- the nodes, and then an element after them
abbrev pub then_element : Forest Node → List ℕ → List Attr → Forest Node → Forest Node
then_element nodes name attrs children = then_tree nodes (Element name attrs) children

-- a last node, and then characters: they join a text, and after an element they make one
abbrev pub joined_with : Node → Forest Node → List ℕ → Forest Node
joined_with (Element name attrs) children characters = Tree (Element name attrs) children (Tree (Text characters) Empty Empty)
joined_with (Text before) children characters = Tree (Text (before ++ characters)) children Empty

-- the nodes, and then these characters, of which there are some
abbrev pub then_some_characters : Forest Node → List ℕ → Forest Node
then_some_characters Empty characters = Tree (Text characters) Empty Empty
then_some_characters (Tree node children Empty) characters = joined_with node children characters
then_some_characters (Tree node children (Tree next inside after)) characters = Tree node children (then_some_characters (Tree next inside after) characters)

-- the nodes, and then characters; no characters make no text
abbrev pub then_characters : Forest Node → List ℕ → Forest Node
then_characters nodes [] = nodes
then_characters nodes (first ∷ rest) = then_some_characters nodes (first ∷ rest)
