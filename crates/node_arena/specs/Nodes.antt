-- What a node has of its own: DOM, 4.9 "Interface Element" and 4.11 "Interface Text".
use Rattle.std.specs.Prelude.{ℕ, List, [], Option, Some, None, option_map, option_and_then, unwrap_or}
use Rattle.forest.specs.Forest.{Forest}
use Rattle.forest.specs.Keys.{Keyed}
use Rattle.forest.specs.Spots.{label_of}
use Rattle.plain_types.specs.declared.attr.Attr.{Attr}
use Rattle.plain_types.specs.Attributes.{value_of}
use Rattle.plain_types.specs.declared.node.Node.{Node}
use Rattle.plain_types.specs.declared.node.Node.TheVariants.{Element, Text}

-- an element's name; a text has none
abbrev pub node_name : Node → Option (List ℕ)
node_name (Element name attrs) = Some name
node_name (Text characters) = None

-- a text's characters; an element has none
abbrev pub node_characters : Node → Option (List ℕ)
node_characters (Element name attrs) = None
node_characters (Text characters) = Some characters

-- an element's attributes; a text has none
abbrev pub node_attrs : Node → List Attr
node_attrs (Element name attrs) = attrs
node_attrs (Text characters) = []

-- The same of the node of this key.

abbrev pub name_of : Forest (Keyed Node) → ℕ → Option (List ℕ)
name_of tree key = option_and_then node_name (label_of tree key)

abbrev pub characters_of : Forest (Keyed Node) → ℕ → Option (List ℕ)
characters_of tree key = option_and_then node_characters (label_of tree key)

abbrev pub attrs_of : Forest (Keyed Node) → ℕ → List Attr
attrs_of tree key = unwrap_or (option_map node_attrs (label_of tree key)) []

abbrev pub attr_of : Forest (Keyed Node) → ℕ → List ℕ → Option (List ℕ)
attr_of tree key name = value_of name (attrs_of tree key)
