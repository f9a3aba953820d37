-- The style elements of a document, and the style sheet that it has of its author: HTML, 4.2.6 "The style element".
use Rattle.std.specs.Prelude.{ℕ, ◌&&◌, ◌||◌, ◌==◌, Bool, true, false, List, [], ◌∷◌, ◌++◌, cond, codes, length}
use Rattle.std.specs.Option.{option_map_or}
use Rattle.std.specs.Str.{bytes_eq}
use Rattle.forest.specs.Forest.{Forest, Empty, Tree}
use Rattle.forest.specs.Keys.{Keyed}
use Rattle.forest.specs.Spots.{children_of, label_of}
use Rattle.plain_types.specs.declared.node.Node.{Node}
use Rattle.plain_types.specs.declared.node.Node.TheVariants.{Element, Text}
use Rattle.plain_types.specs.declared.sheet.Sheet.{Sheet}
use Rattle.plain_types.specs.Attributes.{value_of}
use Rattle.css_definitions.specs.Words.{is_word}
use Rattle.css_reader.specs.Sheets.{sheets}
use Rattle.generated_texts.specs.References.{characters_in}

-- a `type` that is that of CSS: an empty one, or `text/css` in any ASCII case
abbrev pub is_css : List ℕ → Bool
is_css type = length type == 0 || is_word type (codes "text/css")

-- The node is a style element with a style sheet of CSS: it has no `type`, or such a one. Our own: its `media` is not
-- looked at, and it counts wherever it stands.
abbrev pub has_sheet : Node → Bool
has_sheet (Element name attrs) = bytes_eq name (codes "style") && option_map_or is_css (value_of (codes "type") attrs) true
has_sheet (Text characters) = false

-- The text of a node's sheet, if it has one, where these are its children. Our own: all characters under the node count,
-- those of elements in it too.
abbrev pub style_text : Node → Forest (Keyed Node) → List (List ℕ)
style_text node children = cond (has_sheet node) (characters_in children ∷ []) []

-- the texts of the sheets in trees, in tree order
abbrev pub style_texts : Forest (Keyed Node) → List (List ℕ)
style_texts Empty = []
style_texts (Tree node children after) = style_text node.label children ++ (style_texts children ++ style_texts after)

-- the text of the sheet of the node of this key, if it has one
abbrev pub style_text_of : Forest (Keyed Node) → ℕ → List (List ℕ)
style_text_of document key = option_map_or (λ node. style_text node (children_of document key)) (label_of document key) []

-- CSS Cascade 5, 6.1 "Order of Appearance": the sheet of this text, and then those of the style elements
abbrev pub author_sheet : List ℕ → Forest (Keyed Node) → Sheet
author_sheet text document = sheets (text ∷ style_texts document)
