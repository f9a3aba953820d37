-- Which lists of items are documents, and of which trees: XML 1.0, 2.1 document, 2.8 prolog, 3 element
-- and 3.1 content.
use Rattle.std.specs.Prelude.{◌≡◌, ℕ, Bool, true, false, IsTrue, List, [], ◌∷◌, ◌++◌, Option, Some, None}
use Rattle.std.specs.List.{list_all}
use Rattle.forest.specs.Forest.{Forest, Empty, Tree}
use Rattle.plain_types.specs.declared.attr.Attr.{Attr}
use Rattle.plain_types.specs.declared.node.Node.{Node}
use Rattle.plain_types.specs.declared.node.Node.TheVariants.{Element}
use Rattle.reading.specs.Characters.{is_blank}
use Rattle.xml_definitions.specs.Items.{Item, doctype, comment, instruction, start_tag, empty_tag, end_tag, reference, section, plain_character}
use Rattle.xml_definitions.specs.Nodes.{then_element, then_characters}

-- XML 1.0, 2.8 Misc: a comment, a processing instruction or a blank. Our own: the XML declaration is an
-- instruction like any other, and may stand wherever one may.
abbrev pub is_misc : Item → Bool
is_misc doctype = false
is_misc comment = true
is_misc instruction = true
is_misc (start_tag name attrs) = false
is_misc (empty_tag name attrs) = false
is_misc (end_tag name) = false
is_misc (reference character) = false
is_misc (section characters) = false
is_misc (plain_character character) = is_blank character

-- each of the items is one of these
abbrev pub AreMisc : List Item → Type 0
AreMisc items = IsTrue (list_all is_misc items)

-- the characters that an item leaves in the content where it stands, if it may stand there and is no tag
abbrev pub left_by : Item → Option (List ℕ)
left_by doctype = None
left_by comment = Some []
left_by instruction = Some []
left_by (start_tag name attrs) = None
left_by (empty_tag name attrs) = None
left_by (end_tag name) = None
left_by (reference character) = Some (character ∷ [])
left_by (section characters) = Some characters
left_by (plain_character character) = Some (character ∷ [])

mutual
  -- the items are one element, with this name, these attributes and these child nodes
  pub data IsElement : List Item → List ℕ → List Attr → Forest Node → Type 0 where
    empty_element : (name : List ℕ) (attrs : List Attr) → IsElement (empty_tag name attrs ∷ []) name attrs Empty
    whole_element : (name : List ℕ) (attrs : List Attr) {inside : List Item} {children : Forest Node} → IsContent inside children
        → IsElement (start_tag name attrs ∷ inside ++ end_tag name ∷ []) name attrs children

  -- the items are the content of an element, with these nodes
  pub data IsContent : List Item → Forest Node → Type 0 where
    no_content : IsContent [] Empty
    and_characters : {before : List Item} {nodes : Forest Node} → IsContent before nodes → (item : Item) (characters : List ℕ) → left_by item ≡ Some characters
        → IsContent (before ++ item ∷ []) (then_characters nodes characters)
    and_element : {before one : List Item} {nodes children : Forest Node} {name : List ℕ} {attrs : List Attr} → IsContent before nodes → IsElement one name attrs children
        → IsContent (before ++ one) (then_element nodes name attrs children)

-- the items may stand before the root element
pub data IsProlog : List Item → Type 0 where
  without_doctype : (misc : List Item) → AreMisc misc → IsProlog misc
  with_doctype : (first second : List Item) → AreMisc first → AreMisc second → IsProlog (first ++ doctype ∷ second)

-- the items are a document with this tree
pub data IsDocument : List Item → Forest Node → Type 0 where
  document : {before root : List Item} (after : List Item) {name : List ℕ} {attrs : List Attr} {children : Forest Node}
      → IsProlog before → IsElement root name attrs children → AreMisc after
      → IsDocument (before ++ root ++ after) (Tree (Element name attrs) children Empty)
