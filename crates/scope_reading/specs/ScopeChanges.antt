-- What is read of a document to tell the start of a reversed counter (our own, over CSS Lists 3, 4.4): what its creator does to
-- counters, and what the elements behind it do, up to the first that the counter does not reach.
use Rattle.std.specs.Prelude.{ℕ, ◌==◌, Bool, true, false, ◌&&◌, ◌||◌, List, [], ◌++◌, if◌then◌else◌}
use Rattle.std.specs.List.{list_any}
use Rattle.std.specs.Str.{bytes_eq}
use Rattle.forest.specs.Forest.{Forest, Empty, Tree}
use Rattle.forest.specs.Keys.{Keyed}
use Rattle.plain_types.specs.declared.box_id.BoxId.{BoxId}
use Rattle.plain_types.specs.declared.box_kind.BoxKind.{BoxKind}
use Rattle.plain_types.specs.declared.box_kind.BoxKind.TheVariants as kind
use Rattle.plain_types.specs.declared.counter.Counter.{Counter}
use Rattle.plain_types.specs.declared.counter_style.CounterStyle.{CounterStyle}
use Rattle.counter_sets.specs.Sets.{is_same_box}
use Rattle.box_eval.specs.declared.change.Change.{Change}
use Rattle.box_eval.specs.Elements.{Handed, at_root, before_of, by_parent, children_handed, own_counted}
use Rattle.box_eval.specs.Evaluation.{Element, StyledNode, Text, changes, changes_in, first_changes, is_boxed, last_changes, past_node, past_trees, within}

-- the counter of this name that this box creates
module _ (creator : BoxId) (name : List ℕ) where
  abbrev pub is_it : Counter → Bool
  is_it counter = is_same_box counter.creator creator && bytes_eq counter.name name

  -- a set has it
  abbrev pub has_it : List Counter → Bool
  has_it set = list_any is_it set

  module _ (table : List CounterStyle) where
    -- an element has it in its own set
    abbrev pub is_reached : StyledNode → ℕ → Handed → Bool
    is_reached (Element element) key handed = has_it (own_counted table by_parent key element handed).set
    is_reached Text key handed = true

    -- What siblings do with all that is in them, up to the first whose own set lacks the counter. Those that have no box are passed.
    abbrev pub row_changes : Bool → Handed → Forest (Keyed StyledNode) → List Change
    row_changes boxed handed Empty = []
    row_changes boxed handed (Tree node children after) =
        let has : Bool = is_boxed boxed node.label in
        let first : Handed = within table by_parent has node.key node.label handed in
        let behind : Handed = past_trees table by_parent has first children in
        if has then
        (if is_reached node.label node.key handed then
        first_changes table by_parent has node.key node.label handed
        ++ (changes table by_parent has first children
        ++ (last_changes table by_parent has node.key node.label behind
        ++ row_changes boxed (past_node table by_parent has node.key node.label handed behind) after))
        else [])
        else row_changes boxed handed after

    -- the creator's element is one of these siblings
    abbrev pub is_among : Forest (Keyed StyledNode) → Bool
    is_among Empty = false
    is_among (Tree node children after) = (node.key == creator.key) || is_among after

    -- What is read from the creator's element on, by the box of it that creates the counter. Its own box, or its marker: the
    -- element, and the siblings after it. Its before box: that box, the children, and the after box. Its after box: that box alone.
    abbrev pub creator_changes : Bool → Bool → BoxKind → ℕ → StyledNode → Handed → (children after : Forest (Keyed StyledNode)) → List Change
    creator_changes boxed true kind.Before key (Element element) handed children after =
        let first : Handed = children_handed table by_parent key element handed in
        changes_in (before_of table by_parent key element handed).made
        ++ (row_changes true first children ++ last_changes table by_parent true key (Element element) (past_trees table by_parent true first children))
    creator_changes boxed true kind.After key (Element element) handed children after =
        last_changes table by_parent true key (Element element) (past_trees table by_parent true (children_handed table by_parent key element handed) children)
    creator_changes boxed has _ key label handed children after =
        let first : Handed = within table by_parent has key label handed in
        let behind : Handed = past_trees table by_parent has first children in
        first_changes table by_parent has key label handed
        ++ (changes table by_parent has first children
        ++ (last_changes table by_parent has key label behind
        ++ row_changes boxed (past_node table by_parent has key label handed behind) after))

    -- That, and behind it the after box of the element's parent, which is the last sibling box.
    abbrev pub read_changes : Bool → Handed → Forest (Keyed StyledNode) → List Change
    read_changes boxed handed Empty = []
    read_changes boxed handed (Tree node children after) =
        let has : Bool = is_boxed boxed node.label in
        let first : Handed = within table by_parent has node.key node.label handed in
        let behind : Handed = past_trees table by_parent has first children in
        if node.key == creator.key then creator_changes boxed has creator.kind node.key node.label handed children after
        else
        (read_changes has first children
        ++ ((if is_among children then last_changes table by_parent has node.key node.label behind else [])
        ++ read_changes boxed (past_node table by_parent has node.key node.label handed behind) after))

-- what is read of a document
abbrev pub scope_changes : (creator : BoxId) (name : List ℕ) → List CounterStyle → Forest (Keyed StyledNode) → List Change
scope_changes creator name table document = read_changes creator name table true at_root document
