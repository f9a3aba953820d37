-- The definitions, computed on small documents.
use Rattle.std.proofs.Common.{◌≡◌, ℕ, true, false, List, [], ◌∷◌, ◌++◌, refl, codes}
use Rattle.std.specs.List.{list_all}
use Rattle.bake_definitions.specs.Baked.{Annotated, baked, is_inserted, taken_out, without_insertions}
use Rattle.bake_definitions.specs.Grown.{IsGrown, at_end, kept, tag_opened}
use Rattle.bake_definitions.specs.Insertions.{Insertion, inserted_attrs, inserted_name, captioned_names, names_without_span, parent_names, takes_span, text_names, void_names}
use Rattle.bake_definitions.specs.Places.{left_out, placed}
use Rattle.bake_definitions.specs.Pieces.{Piece, characters_of, mark_of, piece}
use Rattle.bake_definitions.specs.Woven.{at_tags, insertion_text, woven}
use Rattle.forest.specs.Forest.{Forest, Empty, Tree}
use Rattle.plain_types.specs.declared.box_kind.BoxKind.{BoxKind}
use Rattle.plain_types.specs.declared.box_kind.BoxKind.TheVariants.{Marker, Before, After}
use Rattle.plain_types.specs.declared.node.Node.{Node}
use Rattle.plain_types.specs.declared.node.Node.TheVariants.{Element, Text}
use Rattle.reading.specs.Reading.{span}
use Rattle.xml_definitions.specs.Items.{comment, start_tag, empty_tag, end_tag, plain_character}

abbrev put : BoxKind → List ℕ → Insertion
put kind text = record { kind = kind; text = text }

-- an element without attributes, with what is put into it
abbrev element : List ℕ → List Insertion → List Insertion → Annotated
element name first last = record { node = Element name []; first = first; last = last }

abbrev characters : List ℕ → Annotated
characters text = record { node = Text text; first = []; last = [] }

-- Two items of a list, each with its marker; the second is an empty-element tag, which is opened.

abbrev list_text : List Piece
list_text =
    piece (codes "<ol>") (start_tag (codes "ol") []) ∷ piece (codes "<li>") (start_tag (codes "li") []) ∷ piece (codes "a") (plain_character 97)
    ∷ piece (codes "</li>") (end_tag (codes "li")) ∷ piece (codes "<li />") (empty_tag (codes "li") []) ∷ piece (codes "</ol>") (end_tag (codes "ol")) ∷ []

abbrev list_tree : Forest Annotated
list_tree =
    Tree (element (codes "ol") [] [])
    (Tree (element (codes "li") (put Marker (codes "1. ") ∷ []) []) (Tree (characters (codes "a")) Empty Empty)
    (Tree (element (codes "li") (put Marker (codes "2. ") ∷ []) []) Empty Empty))
    Empty

list_output : characters_of (woven list_text (at_tags list_tree))
    ≡ codes "<ol><li><span class=\"baked-marker\">1. </span>a</li><li ><span class=\"baked-marker\">2. </span></li></ol>"
unfolding span
list_output = refl

abbrev plain_element : List ℕ → Forest Node → Forest Node → Forest Node
plain_element name children after = Tree (Element name []) children after

abbrev number : List ℕ → Forest Node → Forest Node
number text after = Tree (Element (codes "span") (inserted_attrs Marker)) (Tree (Text text) Empty Empty) after

list_baked : baked list_tree
    ≡ plain_element (codes "ol")
    (plain_element (codes "li") (number (codes "1. ") (Tree (Text (codes "a")) Empty Empty))
    (plain_element (codes "li") (number (codes "2. ") Empty) Empty))
    Empty
unfolding span
list_baked = refl

list_again : taken_out (baked list_tree) ≡ without_insertions list_tree
list_again = refl

-- A tag into which nothing is put stays as it is, and so do line ends, and a byte order mark.

abbrev nothing_text : List Piece
nothing_text = piece (60 ∷ 112 ∷ 13 ∷ 10 ∷ codes "/>") (empty_tag (codes "p") []) ∷ piece (13 ∷ 10 ∷ []) (plain_character 10) ∷ []

nothing_output : characters_of (woven nothing_text (at_tags (Tree (element (codes "p") [] []) Empty Empty))) ≡ characters_of nothing_text
nothing_output = refl

mark_stays : mark_of (0xfeff ∷ codes "<p/>") ≡ 0xfeff ∷ []
mark_stays = refl

-- Marker and before stand behind the start tag, before a comment; after stands before the end tag, behind the blank.

abbrev item_text : List Piece
item_text =
    piece (codes "<li>") (start_tag (codes "li") []) ∷ piece (codes "<!-- c -->") comment ∷ piece (codes "a") (plain_character 97)
    ∷ piece (10 ∷ []) (plain_character 10) ∷ piece (codes "</li>") (end_tag (codes "li")) ∷ []

item_output : characters_of (woven item_text
    (at_tags (Tree (element (codes "li") (put Marker (codes "1. ") ∷ put Before (codes "[") ∷ []) (put After (codes "]") ∷ [])) (Tree (characters (97 ∷ 10 ∷ [])) Empty Empty) Empty)))
    ≡ codes "<li><span class=\"baked-marker\">1. </span><span class=\"baked-before\">[</span><!-- c -->a" ++ 10 ∷ codes "<span class=\"baked-after\">]</span></li>"
unfolding span
item_output = refl

-- The four characters that are written by reference, and one that no document can have.
escapes : insertion_text (codes "p") (put Before (1 ∷ 13 ∷ codes "<&>]]>"))
    ≡ codes "<span class=\"baked-before\">" ++ 0xfffd ∷ codes "&#13;&lt;&amp;&gt;]]&gt;</span>"
unfolding span
escapes = refl

-- The inserted element has the prefix of the element that it is put into.
prefixed : inserted_name (codes "h:li") ≡ codes "h:span"
unfolding span
prefixed = refl

without_prefix : inserted_name (codes "li") ≡ codes "span"
without_prefix = refl

-- Elements that take no `span`; names are compared as written.
some_take_none : list_all takes_span (codes "p" ∷ codes "li" ∷ codes "td" ∷ codes "TABLE" ∷ codes "h:table" ∷ []) ≡ true
unfolding names_without_span void_names text_names parent_names captioned_names
some_take_none = refl

tables_take_none : takes_span (codes "table") ≡ false
unfolding names_without_span void_names text_names parent_names captioned_names
tables_take_none = refl

breaks_take_none : takes_span (codes "br") ≡ false
unfolding names_without_span void_names text_names parent_names captioned_names
breaks_take_none = refl

-- An element that is put in is told by its class, which is its one attribute.

abbrev span_of_class : List ℕ → Node
span_of_class value = Element (codes "span") (record { name = codes "class"; value = value } ∷ [])

ours : is_inserted (span_of_class (codes "baked-after")) ≡ true
ours = refl

not_ours : is_inserted (span_of_class (codes "baked-after note")) ≡ false
not_ours = refl

-- A tag that is opened, as characters alone.
opened_tag : IsGrown (codes "<p/>") (codes "<p><span class=\"baked-after\">x</span></p>")
unfolding span
opened_tag = kept 60 (kept 112 (tag_opened (codes "p") refl (codes "p", put After (codes "x")) [] (refl, tt) at_end))

-- A list takes no `span`: its text is left out, and that of its item stays.

abbrev list_with_text : Forest Annotated
list_with_text = Tree (element (codes "ul") (put Before (codes "x") ∷ []) []) (Tree (element (codes "li") (put Marker (codes "y") ∷ []) []) Empty Empty) Empty

list_placed : placed list_with_text ≡ Tree (element (codes "ul") [] []) (Tree (element (codes "li") (put Marker (codes "y") ∷ []) []) Empty Empty) Empty
unfolding names_without_span void_names text_names parent_names captioned_names
list_placed = refl

list_left_out : left_out list_with_text ≡ 1
unfolding names_without_span void_names text_names parent_names captioned_names
list_left_out = refl
