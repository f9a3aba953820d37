-- Where a walk from the places of an edit stands in the merge (our own).
use Rattle.std.specs.Prelude.{◌≡◌, ◌<◌, ◌≤◌, ◌+◌, ◌*◌, ℕ, true, List, [], ◌∷◌, ◌++◌, length, map, Option, Some, None, if◌then◌else◌, is_some, option_map}
use Rattle.forest.specs.Forest.{Forest, size, weigh}
use Rattle.forest.specs.Keys.{Keyed}
use Rattle.forest.specs.Spots.{IsLink, IsLive, after_of, first_key, on_link}
use Rattle.plain_types.specs.declared.attr.Attr.{Attr}
use Rattle.plain_types.specs.declared.style.Style.{Style}
use Rattle.plain_types.specs.declared.node.Node.{Node}
use Rattle.node_arena.specs.Nodes.{attrs_of, node_name}
use Rattle.box_eval.specs.declared.change.Change.{Change}
use Rattle.box_eval.specs.Boxes.{generates_box}
use Rattle.box_eval.specs.Elements.{by_parent, entry_of}
use Rattle.box_eval.specs.Evaluation.{Element, StyledNode, Text, styled_trees}
use Rattle.merged_walk.specs.Evaluators.{past_all}
use Rattle.merged_walk.specs.Merges.{Merge, all_come, new_of}
use Rattle.merged_walk.specs.Walks.{Fits, Open, State, Walks, news}
use Rattle.surroundings.specs.declared.surroundings.Surroundings.{Surroundings}
use Rattle.surroundings.specs.declared.told.Told.{Told}
use Rattle.surroundings.specs.declared.walked.Walked.{Walked}
use Rattle.surroundings.specs.MergedLevels.{AreAllLed, HasLeaves}
use Rattle.surroundings.specs.StyledEvaluators.{is_element, past_styled, styled_asks, styled_evaluator}
use Rattle.surroundings.specs.Surroundings.{handed_by}
use Rattle.document_walk.specs.declared.catching.Catching.{Catching}
use Rattle.document_walk.specs.declared.catching.OpenElement.{OpenElement}
use Rattle.document_walk.specs.declared.opened.Opened.{Opened}
use Rattle.document_walk.specs.Elements.{one_where}
use Rattle.document_walk.specs.Catching.{Reading, frames_of, stops_left, with_changes}
use Rattle.document_walk.specs.TreeChanges.{changes_after_children, tree_changes}

-- what is handed on
abbrev pub Handing : Type 0
Handing = Option Surroundings

abbrev pub OpenNode : Type 0
OpenNode = Open StyledNode Handing

-- the style that a node hands on to its children
abbrev pub style_in : StyledNode → Option Style
style_in (Element element) = Some element.style.own
style_in Text = None

-- its attributes
abbrev pub attrs_in : StyledNode → List Attr
attrs_in (Element element) = element.attrs
attrs_in Text = []

-- the style under open nodes
abbrev pub parent_style : List OpenNode → Option Style
parent_style [] = None
parent_style (open_node ∷ above) = style_in open_node.node.label

-- nothing may be skipped on the level of the root
abbrev pub IsRootLed : List OpenNode → Merge StyledNode → Type 0
IsRootLed [] here = AreAllLed here
IsRootLed (open_node ∷ above) here = IsRootLed above open_node.after

-- the state of the walk in the merge
abbrev pub state_at : Catching → (steps : ℕ) → List OpenNode → (was_handed : Handing) → Merge StyledNode → State StyledNode Told Handing
state_at walk steps above was_handed here = record {
  above = above;
  handed = walk.around;
  was_handed = was_handed;
  here = here;
  stops = stops_left walk;
  changes = walk.told;
  spent = steps + length walk.told;
}

-- each open node comes, and all behind it
abbrev pub AllCome : List OpenNode → Type 0
AllCome [] = Unit {0}
AllCome (open_node ∷ above) = (open_node.fresh ≡ true) × (open_node.after ≡ all_come (new_of open_node.after)) × AllCome above

-- the elements among trees
abbrev pub elements_in : Forest (Keyed Node) → ℕ
elements_in trees = weigh (λ (node : Keyed Node). one_where (is_some (node_name node.label))) trees

module _ (from : Reading) where
  -- what is made of a node, where it is handed this
  abbrev pub opened_as : ℕ → StyledNode → Surroundings → Option Opened
  opened_as key (Element element) around =
      if generates_box element.style then
      Some (record {
        parent = around.parent;
        depth = around.depth;
        style = element.style;
        starts = element.starts;
        entry = entry_of from.table by_parent key element (handed_by around);
      })
      else None
  opened_as key Text around = None

  abbrev pub opened_of : Keyed StyledNode → Handing → Option Opened
  opened_of node None = None
  opened_of node (Some around) = opened_as node.key node.label around

  -- an open node, as the code keeps it
  abbrev pub frame_of : OpenNode → OpenElement
  frame_of open_node = record {
    key = open_node.node.key;
    opened = opened_of open_node.node open_node.handed;
    handed = open_node.handed;
    fresh = open_node.fresh;
  }

  -- something is handed on a level where the parent has a box, and on those of the open nodes too
  abbrev pub AreBoxed : List OpenNode → Handing → Type 0
  AreBoxed [] handed = is_some handed ≡ true
  AreBoxed (open_node ∷ above) handed = (is_some handed ≡ is_some (opened_of open_node.node open_node.handed)) × AreBoxed above open_node.handed

  -- the open nodes, and what is behind them, are what the document has there
  abbrev pub Stands : List OpenNode → Type 0
  Stands [] = Unit {0}
  Stands (open_node ∷ above) =
      IsLive from.tree open_node.node.key
      × (attrs_of from.tree open_node.node.key ≡ attrs_in open_node.node.label)
      × (styled_trees from.style from.start (parent_style above) (after_of from.tree open_node.node.key) ≡ new_of open_node.after)
      × HasLeaves is_element open_node.after
      × Stands above

  -- what is left to walk, told by the code's values
  abbrev pub left_frames : List OpenElement → ℕ
  left_frames [] = 0
  left_frames (frame ∷ frames) = 1 + (2 * size (after_of from.tree frame.key) + left_frames frames)

  abbrev pub left_of : Catching → ℕ
  left_of walk = 2 * size (on_link from.tree walk.link) + (left_frames (frames_of walk) + length (stops_left walk))

  -- the elements behind the open ones, and all that are left to enter
  abbrev pub elements_behind : List OpenElement → ℕ
  elements_behind [] = 0
  elements_behind (frame ∷ frames) = elements_in (after_of from.tree frame.key) + elements_behind frames

  abbrev pub elements_left : Catching → ℕ
  elements_left walk = elements_in (on_link from.tree walk.link) + elements_behind (frames_of walk)

  -- what a walk may take for these, and for the open ones
  abbrev pub spared_for : Catching → ℕ
  spared_for walk = 4 * elements_left walk + length (frames_of walk)

  -- No more elements are told than are left, and no more steps are taken than the elements that are left behind pay for: 4 for
  -- each, of which 1 is kept while it is open.
  pub record Spares (old : Catching) (before : ℕ) (new : Catching) (now : ℕ) : Type 0 where
    pub told : length new.told + (elements_left new + length (frames_of new)) ≤ length old.told + (elements_left old + length (frames_of old))
    pub steps : now + spared_for new ≤ before + spared_for old

  -- What the boxes behind open nodes do to counters, and all those that are still to be closed or opened.

  abbrev pub changes_behind : List OpenNode → Handing → List Change
  changes_behind [] behind = []
  changes_behind (open_node ∷ above) behind =
      let next = past_styled from.table open_node.node open_node.handed behind in
      changes_after_children from.table open_node.node open_node.handed behind
      ++ (tree_changes from.table next (new_of open_node.after)
      ++ changes_behind above (past_all (styled_evaluator from.table) next (new_of open_node.after)))

  abbrev pub changes_left : List OpenNode → Handing → Merge StyledNode → List Change
  changes_left above handed here = tree_changes from.table handed (new_of here) ++ changes_behind above (past_all (styled_evaluator from.table) handed (new_of here))

  -- A walk over trees that all come, where all this is told of them, and this is collected: what was told and what is still told is
  -- all, and so is what was collected and what still is; and it takes no more steps than this, 3 for each element.
  pub record IsWhole (all : List (ℕ × Told)) (collected : Option (List Change)) (limit : ℕ) (walk : Catching) (steps : ℕ) (above : List OpenNode) (here : Merge StyledNode) : Type 0 where
    pub come : here ≡ all_come (new_of here)
    pub come_behind : AllCome above
    pub told : walk.told ++ news (styled_evaluator from.table) above walk.around here ≡ all
    pub changes : with_changes walk.changes (changes_left above walk.around here) ≡ collected
    pub few : steps + (3 * elements_left walk + length (frames_of walk)) ≤ limit

  module _ (kept : ℕ → Option Walked) where
    -- the walk stands there, where this is held, all this is told now, and it may spend so much
    pub record IsAt (held : ℕ → Option Told) (all : List (ℕ × Told)) (most : ℕ) (walk : Catching) (steps : ℕ) : Type 0 where
      pub above : List OpenNode
      pub was_handed : Handing
      pub here : Merge StyledNode
      pub read : (key : ℕ) → kept key ≡ option_map (λ (told : Told). told.walked) (held key)
      pub frames : frames_of walk ≡ map frame_of above
      pub boxed : AreBoxed above walk.around
      pub first : walk.link ≡ first_key (new_of here)
      pub leads : IsLink from.tree walk.link
      pub on : styled_trees from.style from.start (parent_style above) (on_link from.tree walk.link) ≡ new_of here
      pub leaves : HasLeaves is_element here
      pub stands : Stands above
      pub root : IsRootLed above here
      pub walks : Walks (styled_evaluator from.table) held all most (state_at walk steps above was_handed here)
      pub fits : Fits (styled_evaluator from.table) styled_asks (state_at walk steps above was_handed here)

    -- the walk stands somewhere
    pub record IsSomewhere (walk : Catching) (steps : ℕ) : Type 0 where
      pub held : ℕ → Option Told
      pub all : List (ℕ × Told)
      pub most : ℕ
      pub at : IsAt held all most walk steps

    -- from where it stands the walk goes on: it stands there, less is left to walk, it takes no more than it may, and where all
    -- comes, all is told
    abbrev pub Reaches : (held : ℕ → Option Told) (all : List (ℕ × Told)) (most : ℕ) (old : Catching) (before : ℕ) → IsAt held all most old before → (new : Catching) (now : ℕ) → Type 0
    Reaches held all most old before at new now =
        (next : IsAt held all most new now)
        × ((left_of new < left_of old)
        × Spares old before new now
        × ((collected : Option (List Change)) (limit : ℕ) → IsWhole all collected limit old before at.above at.here → IsWhole all collected limit new now next.above next.here))

    -- wherever it stands
    abbrev pub GoesOn : Catching → ℕ → Catching → ℕ → Type 0
    GoesOn old before new now =
        (held : ℕ → Option Told) (all : List (ℕ × Told)) (most : ℕ) (at : IsAt held all most old before) → Reaches held all most old before at new now

    -- and has not spent more than it may
    abbrev pub IsWithinMost : Catching → ℕ → ℕ → Type 0
    IsWithinMost old before now =
        (held : ℕ → Option Told) (all : List (ℕ × Told)) (most : ℕ) (at : IsAt held all most old before)
        → (now ≤ most) × (now ≤ before + spared_for old) × ((collected : Option (List Change)) (limit : ℕ) → IsWhole all collected limit old before at.above at.here → now ≤ limit)
