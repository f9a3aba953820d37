-- A document that is made up, its sheet, and edits of it, from a seed and a number of edits (our own).
use Rattle.std.specs.Prelude.{ℕ, zero, suc, ◌+◌, ◌/◌, nat_lt, ◌==◌, if◌then◌else◌, List, [], ◌∷◌, ◌++◌, codes}
use Rattle.std.specs.Fmt.{decimal}
use Rattle.forest.specs.Forest.{Forest, Empty, Tree}
use Rattle.plain_types.specs.declared.attr.Attr.{Attr}
use Rattle.plain_types.specs.declared.edit.Edit.{Edit}
use Rattle.plain_types.specs.declared.edit.Edit.TheVariants.{Insert, Remove, Move, SetAttr, UnsetAttr}
use Rattle.plain_types.specs.declared.node.Node.{Node}
use Rattle.plain_types.specs.declared.node.Node.TheVariants.{Element, Text}
use Rattle.edit_script.specs.Draws.{drawn, next_state, state_after}

-- how many sections there are for so many edits
abbrev pub section_count : ℕ → ℕ
section_count edits = edits / 10 + 1

-- The document.

abbrev pub attr : List ℕ → List ℕ → Attr
attr name value = record { name = name; value = value }

-- an element with its children, and the trees after it
abbrev pub element_node : List ℕ → List Attr → Forest Node → Forest Node → Forest Node
element_node name attrs children after = Tree (Element name attrs) children after

-- `<li/>`
abbrev pub item : Forest Node → Forest Node
item after = element_node (codes "li") [] Empty after

-- `<h2>k</h2>`
abbrev pub heading : ℕ → Forest Node → Forest Node
heading number after = element_node (codes "h2") [] (Tree (Text (decimal number)) Empty Empty) after

-- `<ol><li/><li/><li/></ol>`
abbrev pub item_list : Forest Node → Forest Node
item_list after = element_node (codes "ol") [] (item (item (item Empty))) after

-- `<p><a href="#sj"/></p>`
abbrev pub link : ℕ → Forest Node → Forest Node
link target after =
    element_node (codes "p") [] (element_node (codes "a") (attr (codes "href") (codes "#s" ++ decimal target) ∷ []) Empty Empty) after

-- `<section id="sk">`, and in it these three
unfoldable pub section : ℕ → ℕ → Forest Node → Forest Node
section number target after =
    element_node (codes "section") (attr (codes "id") (codes "s" ++ decimal number) ∷ []) (heading number (item_list (link target Empty))) after

-- so many sections from this number on, of so many in all; each links to one that is drawn
unfoldable pub sections : ℕ → ℕ → ℕ → ℕ → Forest Node
sections all zero number state = Empty
sections all (suc left) number state =
    section number (drawn all (next_state state)) (sections all left (number + 1) (next_state state))

-- `<body>`, and in it so many sections
abbrev pub document_of : ℕ → ℕ → Forest Node
document_of all state = element_node (codes "body") [] (sections all all 0 state) Empty

unfoldable pub document : ℕ → ℕ → Forest Node
document seed edits = document_of (section_count edits) seed

-- The sheet.

unfoldable pub sheet : List ℕ
sheet =
    codes "body{counter-reset:s}section{counter-increment:s;counter-reset:i}li{counter-increment:i list-item}"
    ++ codes "h2::before{content:counter(s)\". \"}li::before{content:counters(i,\".\")}"
    ++ codes "a::after{content:\"(\"target-counter(attr(href),s)\")\"}"

-- The edits.

-- the list of a section, and an item in it
abbrev pub list_path : ℕ → List ℕ
list_path section = section ∷ 1 ∷ []

abbrev pub item_path : ℕ → ℕ → List ℕ
item_path section item = section ∷ 1 ∷ item ∷ []

-- The edit of this kind, of ten: of ten edits four insert an item, three remove one, one moves one to the
-- front of the list of a target, one sets its value and one unsets it.
abbrev pub edit_of_kind : ℕ → ℕ → ℕ → ℕ → Edit
edit_of_kind kind section place target =
    if nat_lt kind 4 then Insert (list_path section) place (item Empty)
    else (if nat_lt kind 7 then Remove (item_path section place)
    else (if kind == 7 then Move (item_path section place) (list_path target) 0
    else (if kind == 8 then SetAttr (item_path section place) (codes "value") (decimal place)
    else UnsetAttr (item_path section place) (codes "value"))))

-- for an edit a section, a kind and a place are drawn, and for a move a target too
abbrev pub kind_drawn : ℕ → ℕ
kind_drawn state = drawn 10 (state_after 2 state)

abbrev pub edit_drawn : ℕ → ℕ → Edit
edit_drawn all state =
    edit_of_kind (kind_drawn state) (drawn all (state_after 1 state)) (drawn 4 (state_after 3 state)) (drawn all (state_after 4 state))

abbrev pub draws_of : ℕ → ℕ
draws_of kind = if kind == 7 then 4 else 3

-- so many edits, from this state on, in a document of so many sections
unfoldable pub edits : ℕ → ℕ → ℕ → List Edit
edits all zero state = []
edits all (suc left) state = edit_drawn all state ∷ edits all left (state_after (draws_of (kind_drawn state)) state)

-- the document's draws come first
unfoldable pub edits_of : ℕ → ℕ → List Edit
edits_of seed count = edits (section_count count) count (state_after (section_count count) seed)
