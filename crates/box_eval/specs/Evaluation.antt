-- The evaluation of a whole document: CSS Lists 3, 4, and CSS Generated Content 3, 1 to 3.
use Rattle.std.specs.Prelude.{ℕ, ℤ, Bool, true, false, ◌&&◌, List, [], ◌∷◌, ◌++◌, Option, Some, None, map, filter, is_some, not, cond}
use Rattle.std.specs.Option.{option_map_or}
use Rattle.forest.specs.Forest.{Forest, Empty, Tree}
use Rattle.forest.specs.Keys.{Keyed}
use Rattle.plain_types.specs.declared.box_id.BoxId.{BoxId}
use Rattle.plain_types.specs.declared.box_kind.BoxKind.TheVariants as kind
use Rattle.plain_types.specs.declared.counter_style.CounterStyle.{CounterStyle}
use Rattle.plain_types.specs.declared.node.Node.{Node}
use Rattle.plain_types.specs.declared.node.Node.TheVariants as node
use Rattle.plain_types.specs.declared.style.ElementStyle.{ElementStyle}
use Rattle.plain_types.specs.declared.style.ResetOp.{ResetOp}
use Rattle.plain_types.specs.declared.style.Style.{Style}
use Rattle.box_eval.specs.declared.change.Change.{Change}
use Rattle.box_eval.specs.declared.inputs.Inputs.{Inputs}
use Rattle.box_eval.specs.declared.inputs.Start.{Start}
use Rattle.box_eval.specs.declared.element_record.ElementRecord.{ElementRecord}
use Rattle.box_eval.specs.declared.made.Made.{Made}
use Rattle.box_eval.specs.Boxes.{box_of, generates_box, has_pseudo_box}
use Rattle.box_eval.specs.Elements.{Handed, Replacing, Styled, at_root, children_handed, closing_of, entry_of, by_peers, past}
use Rattle.box_eval.specs.Properties.{last_resets}

-- Documents as they are evaluated.

-- an element with its styles and starts, or a text, which has no box
pub data StyledNode : Type 0 where
  Element : (element : Styled) → StyledNode
  Text : StyledNode

-- the starts of the reversed counters that a box of this style creates without a number
abbrev pub box_starts : (BoxId → List ℕ → ℤ) → BoxId → Style → List Start
box_starts start creator style =
    map (λ (reset : ResetOp). record { creator = creator; name = reset.name; value = start creator reset.name })
    (filter (λ (reset : ResetOp). reset.reversed && not (is_some reset.value)) (last_resets style.resets))

abbrev pub element_starts : (BoxId → List ℕ → ℤ) → ℕ → ElementStyle → List Start
element_starts start key style =
    cond (generates_box style)
    (box_starts start (box_of key kind.Element) style.own
    ++ (cond (has_pseudo_box style.before) (box_starts start (box_of key kind.Before) style.before) []
    ++ cond (has_pseudo_box style.after) (box_starts start (box_of key kind.After) style.after) []))
    []

-- Each element with its styles and starts. `style` gives the styles of an element whose parent has this style, and
-- `start` the start of the reversed counter of a name that a box creates.
module _ (style : ℕ → Option Style → ElementStyle) (start : BoxId → List ℕ → ℤ) where
  abbrev pub styled_node : Option Style → ℕ → Node → StyledNode
  styled_node parent key (node.Element name attrs) =
      Element (record { attrs = attrs; style = style key parent; starts = element_starts start key (style key parent) })
  styled_node parent key (node.Text characters) = Text

  -- the style that a node hands on to its children; a text has none
  abbrev pub style_within : Option Style → ℕ → Node → Option Style
  style_within parent key (node.Element name attrs) = Some (style key parent).own
  style_within parent key (node.Text characters) = parent

  -- trees side by side, whose parent has this style
  abbrev pub styled_trees : Option Style → Forest (Keyed Node) → Forest (Keyed StyledNode)
  styled_trees parent Empty = Empty
  styled_trees parent (Tree node children after) =
      Tree (record { key = node.key; label = styled_node parent node.key node.label })
      (styled_trees (style_within parent node.key node.label) children)
      (styled_trees parent after)

  -- a document, whose root has no parent
  abbrev pub styled : Forest (Keyed Node) → Forest (Keyed StyledNode)
  styled document = styled_trees None document

-- What the evaluation says of an element. One without a box has no counters and no boxes.
abbrev pub without_box : ElementRecord
without_box =
    record { has_box = false; own = []; exit = []; depth_before = 0; depth_after = 0; marker = None; before = None; after = None }

-- CSS Display 3, 2.5: whether a node has a box, where its parent has one or not
abbrev pub is_boxed : Bool → StyledNode → Bool
is_boxed parent_has_box (Element element) = parent_has_box && generates_box element.style
is_boxed parent_has_box Text = false

-- what the box of a pseudo-element does to counters, where there is one, and that under the box
abbrev pub changes_in : Option Made → List Change
changes_in made = option_map_or (λ (box : Made). box.changes) made []

abbrev pub made_box_changes : BoxId → Option Made → List (BoxId × List Change)
made_box_changes box made = option_map_or (λ (made : Made). (box, made.changes) ∷ []) made []

module _ (table : List CounterStyle) (replacing : Replacing) where
  -- One node, which has a box or not. `handed` is what it is handed, and `behind` what is handed on behind
  -- its children.

  -- what its children are handed
  abbrev pub within : Bool → ℕ → StyledNode → Handed → Handed
  within true key (Element element) handed = children_handed table replacing key element handed
  within _ key label handed = handed

  -- what the node after it is handed: without a box, what the node itself was handed
  abbrev pub past_node : Bool → ℕ → StyledNode → (handed behind : Handed) → Handed
  past_node true key (Element element) handed behind =
      past (box_of key kind.Element) (entry_of table replacing key element handed).own
      (closing_of table replacing key element behind).exit (closing_of table replacing key element behind).depth handed
  past_node _ key label handed behind = handed

  -- what is said of it
  abbrev pub record_of : Bool → ℕ → Styled → (handed behind : Handed) → ElementRecord
  record_of true key element handed behind = record {
    has_box = true;
    own = (entry_of table replacing key element handed).own;
    exit = (closing_of table replacing key element behind).exit;
    depth_before = handed.depth;
    depth_after = (closing_of table replacing key element behind).depth;
    marker = (entry_of table replacing key element handed).marker;
    before = (entry_of table replacing key element handed).before;
    after = (closing_of table replacing key element behind).after;
  }
  record_of false key element handed behind = without_box

  abbrev pub records_of : Bool → ℕ → StyledNode → (handed behind : Handed) → List (ℕ × ElementRecord)
  records_of boxed key (Element element) handed behind = (key, record_of boxed key element handed behind) ∷ []
  records_of boxed key Text handed behind = []

  -- what its boxes before its children do to counters, and its box after them
  abbrev pub first_changes : Bool → ℕ → StyledNode → Handed → List Change
  first_changes true key (Element element) handed =
      (entry_of table replacing key element handed).changes ++ changes_in (entry_of table replacing key element handed).before
  first_changes _ key label handed = []

  abbrev pub last_changes : Bool → ℕ → StyledNode → Handed → List Change
  last_changes true key (Element element) behind = changes_in (closing_of table replacing key element behind).after
  last_changes _ key label behind = []

  -- the same, under each of these boxes: its own box, its marker and its before box, and its after box
  abbrev pub first_box_changes : Bool → ℕ → StyledNode → Handed → List (BoxId × List Change)
  first_box_changes true key (Element element) handed =
      (box_of key kind.Element, (entry_of table replacing key element handed).changes)
      ∷ (made_box_changes (box_of key kind.Marker) (entry_of table replacing key element handed).marker
      ++ made_box_changes (box_of key kind.Before) (entry_of table replacing key element handed).before)
  first_box_changes _ key label handed = []

  abbrev pub last_box_changes : Bool → ℕ → StyledNode → Handed → List (BoxId × List Change)
  last_box_changes true key (Element element) behind = made_box_changes (box_of key kind.After) (closing_of table replacing key element behind).after
  last_box_changes _ key label behind = []

  -- its inputs, where its parent has a box or it is the root
  abbrev pub inputs_of : Bool → ℕ → StyledNode → Handed → List Inputs
  inputs_of true key (Element element) handed = record {
    key = key;
    parent = handed.parent;
    sibling = handed.sibling;
    preceding = handed.preceding;
    depth = handed.depth;
    starts = element.starts;
  } ∷ []
  inputs_of _ key label handed = []

  -- Trees side by side. `boxed` says whether their parent has a box, and `handed` is what the first is handed.

  -- what is handed on behind them
  abbrev pub past_trees : Bool → Handed → Forest (Keyed StyledNode) → Handed
  past_trees boxed handed Empty = handed
  past_trees boxed handed (Tree node children after) =
      let has = is_boxed boxed node.label in
      let behind = past_trees has (within has node.key node.label handed) children in
      past_trees boxed (past_node has node.key node.label handed behind) after

  -- the records of their elements under their keys, in the order in which the elements are left
  abbrev pub records : Bool → Handed → Forest (Keyed StyledNode) → List (ℕ × ElementRecord)
  records boxed handed Empty = []
  records boxed handed (Tree node children after) =
      let has = is_boxed boxed node.label in
      let first = within has node.key node.label handed in
      let behind = past_trees has first children in
      records has first children
      ++ (records_of has node.key node.label handed behind
      ++ records boxed (past_node has node.key node.label handed behind) after)

  -- what their boxes do to counters, in tree order
  abbrev pub changes : Bool → Handed → Forest (Keyed StyledNode) → List Change
  changes boxed handed Empty = []
  changes boxed handed (Tree node children after) =
      let has = is_boxed boxed node.label in
      let first = within has node.key node.label handed in
      let behind = past_trees has first children in
      first_changes has node.key node.label handed
      ++ (changes has first children
      ++ (last_changes has node.key node.label behind
      ++ changes boxed (past_node has node.key node.label handed behind) after))

  -- what each of their boxes does to counters, under the box, in tree order
  abbrev pub box_changes : Bool → Handed → Forest (Keyed StyledNode) → List (BoxId × List Change)
  box_changes boxed handed Empty = []
  box_changes boxed handed (Tree node children after) =
      let has = is_boxed boxed node.label in
      let first = within has node.key node.label handed in
      let behind = past_trees has first children in
      first_box_changes has node.key node.label handed
      ++ (box_changes has first children
      ++ (last_box_changes has node.key node.label behind
      ++ box_changes boxed (past_node has node.key node.label handed behind) after))

  -- the inputs of their elements, in tree order
  abbrev pub inputs : Bool → Handed → Forest (Keyed StyledNode) → List Inputs
  inputs boxed handed Empty = []
  inputs boxed handed (Tree node children after) =
      let has = is_boxed boxed node.label in
      let first = within has node.key node.label handed in
      let behind = past_trees has first children in
      inputs_of boxed node.key node.label handed
      ++ (inputs has first children
      ++ inputs boxed (past_node has node.key node.label handed behind) after)

-- A whole document: what is said of its elements, what its boxes do to counters, all together and each of them, and
-- its elements' inputs.

abbrev pub evaluation : List CounterStyle → Forest (Keyed StyledNode) → List (ℕ × ElementRecord)
evaluation table document = records table by_peers true at_root document

abbrev pub all_changes : List CounterStyle → Forest (Keyed StyledNode) → List Change
all_changes table document = changes table by_peers true at_root document

abbrev pub all_box_changes : List CounterStyle → Forest (Keyed StyledNode) → List (BoxId × List Change)
all_box_changes table document = box_changes table by_peers true at_root document

abbrev pub all_inputs : List CounterStyle → Forest (Keyed StyledNode) → List Inputs
all_inputs table document = inputs table by_peers true at_root document
