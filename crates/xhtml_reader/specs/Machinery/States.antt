-- Reading items from the first to the last, with a list of the open elements.
use Rattle.std.specs.Prelude.{◌≡◌, ℕ, cond, List, [], ◌∷◌, ◌++◌, Option, Some, None}
use Rattle.std.specs.Str.{bytes_eq}
use Rattle.forest.specs.Forest.{Forest, Empty, Tree}
use Rattle.plain_types.specs.declared.attr.Attr.{Attr}
use Rattle.plain_types.specs.declared.node.Node.{Node}
use Rattle.plain_types.specs.declared.node.Node.TheVariants.{Element, Text}
use Rattle.xml_definitions.specs.Documents.{is_misc, left_by, IsDocument}
use Rattle.xml_definitions.specs.Fragments.{IsFragment}
use Rattle.xml_definitions.specs.Items.{Item, doctype, comment, instruction, start_tag, empty_tag, end_tag, reference, section, plain_character}
use Rattle.xml_definitions.specs.Nodes.{then_element, then_characters}
use Rattle.xhtml_reader.specs.declared.kind.Kind.{Kind}
use Rattle.xhtml_reader.specs.declared.kind.Kind.TheVariants.{Document, Fragment}

-- an open element: its name and attributes, and the nodes before it
pub record Frame : Type 0 where
  pub name : List ℕ
  pub attrs : List Attr
  pub before : Forest Node

abbrev pub frame : List ℕ → List Attr → Forest Node → Frame
frame name attrs before = record { name = name; attrs = attrs; before = before }

-- Where the items so far have led: to no node; to a doctype; to a text outside of all elements; into
-- an element, with those round it, the innermost first, and its nodes so far; or to the end of the
-- outermost element.
pub data State : Type 0 where
  at_start : State
  after_doctype : State
  in_text : (characters : List ℕ) → State
  inside : (innermost : Frame) (outer : List Frame) (here : Forest Node) → State
  at_end : (tree : Forest Node) → State

abbrev pub some_state : State → Option State
some_state state = Some state

abbrev pub closed_in : List Frame → Forest Node → State
closed_in [] nodes = at_end nodes
closed_in (innermost ∷ outer) nodes = inside innermost outer nodes

abbrev pub step_inside : Frame → List Frame → Forest Node → Item → Option State
step_inside innermost outer here doctype = None
step_inside innermost outer here comment = Some (inside innermost outer here)
step_inside innermost outer here instruction = Some (inside innermost outer here)
step_inside innermost outer here (start_tag name attrs) = Some (inside (frame name attrs here) (innermost ∷ outer) Empty)
step_inside innermost outer here (empty_tag name attrs) = Some (inside innermost outer (then_element here name attrs Empty))
step_inside innermost outer here (end_tag name) = cond (bytes_eq innermost.name name) (Some (closed_in outer (then_element innermost.before innermost.name innermost.attrs here))) None
step_inside innermost outer here (reference character) = Some (inside innermost outer (then_characters here (character ∷ [])))
step_inside innermost outer here (section characters) = Some (inside innermost outer (then_characters here characters))
step_inside innermost outer here (plain_character character) = Some (inside innermost outer (then_characters here (character ∷ [])))

abbrev pub while_misc : Item → State → Option State
while_misc item state = cond (is_misc item) (Some state) None

-- the characters so far, where no element is open
abbrev pub outside_text : List ℕ → State
outside_text [] = at_start
outside_text (first ∷ rest) = in_text (first ∷ rest)

abbrev pub leave_text : List ℕ → Option (List ℕ) → Option State
leave_text characters None = None
leave_text characters (Some more) = Some (outside_text (characters ++ more))

abbrev pub leave_nothing : State → Option (List ℕ) → Option State
leave_nothing state None = None
leave_nothing state (Some []) = Some state
leave_nothing state (Some (first ∷ rest)) = None

abbrev pub opens : List ℕ → List Attr → State
opens name attrs = inside (frame name attrs Empty) [] Empty

abbrev pub stands : List ℕ → List Attr → State
stands name attrs = at_end (Tree (Element name attrs) Empty Empty)

-- before the root of a document
abbrev pub step_prolog : State → Item → Option State
step_prolog state doctype = None
step_prolog state comment = Some state
step_prolog state instruction = Some state
step_prolog state (start_tag name attrs) = Some (opens name attrs)
step_prolog state (empty_tag name attrs) = Some (stands name attrs)
step_prolog state (end_tag name) = None
step_prolog state (reference character) = None
step_prolog state (section characters) = None
step_prolog state (plain_character character) = while_misc (plain_character character) state

abbrev pub step_doctype : Item → Option State
step_doctype doctype = Some after_doctype
step_doctype comment = Some at_start
step_doctype instruction = Some at_start
step_doctype (start_tag name attrs) = Some (opens name attrs)
step_doctype (empty_tag name attrs) = Some (stands name attrs)
step_doctype (end_tag name) = None
step_doctype (reference character) = None
step_doctype (section characters) = None
step_doctype (plain_character character) = while_misc (plain_character character) at_start

-- before the node of a fragment
abbrev pub step_node : Item → Option State
step_node doctype = None
step_node comment = Some at_start
step_node instruction = Some at_start
step_node (start_tag name attrs) = Some (opens name attrs)
step_node (empty_tag name attrs) = Some (stands name attrs)
step_node (end_tag name) = None
step_node (reference character) = Some (in_text (character ∷ []))
step_node (section characters) = Some (outside_text characters)
step_node (plain_character character) = Some (in_text (character ∷ []))

-- an item that stands in no element
abbrev pub step_outside : Kind → State → Item → Option State
step_outside Document at_start item = step_doctype item
step_outside Document after_doctype item = step_prolog after_doctype item
step_outside Document (in_text characters) item = None
step_outside Document (inside innermost outer here) item = None
step_outside Document (at_end tree) item = while_misc item (at_end tree)
step_outside Fragment at_start item = step_node item
step_outside Fragment after_doctype item = None
step_outside Fragment (in_text characters) item = leave_text characters (left_by item)
step_outside Fragment (inside innermost outer here) item = None
step_outside Fragment (at_end tree) item = leave_nothing (at_end tree) (left_by item)

abbrev pub step : Kind → State → Item → Option State
step kind at_start item = step_outside kind at_start item
step kind after_doctype item = step_outside kind after_doctype item
step kind (in_text characters) item = step_outside kind (in_text characters) item
step kind (inside innermost outer here) item = step_inside innermost outer here item
step kind (at_end tree) item = step_outside kind (at_end tree) item

-- where items lead: None where one does not fit
abbrev pub run : Kind → Option State → List Item → Option State
run kind state [] = state
run kind None (item ∷ items) = None
run kind (Some state) (item ∷ items) = run kind (step kind state item) items

-- the text may end here, and its tree is this one
abbrev pub IsFinal : State → Forest Node → Type 0
IsFinal at_start tree = ⊥
IsFinal after_doctype tree = ⊥
IsFinal (in_text characters) tree = tree ≡ Tree (Text characters) Empty Empty
IsFinal (inside innermost outer here) tree = ⊥
IsFinal (at_end root) tree = tree ≡ root

-- which lists of items have which trees
abbrev pub allows : Kind → List Item → Forest Node → Type 0
allows Document items tree = IsDocument items tree
allows Fragment items tree = IsFragment items tree
