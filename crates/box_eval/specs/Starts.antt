-- The starts of a document's reversed counters, and its evaluation with them: our own after CSS Lists 3, 4.4. What
-- a start is told by does not depend on any start: it is read off the evaluation in which all are 0.
use Rattle.std.specs.Prelude.{ℕ, ℤ, pos, Bool, true, false, ◌&&◌, ◌||◌, List, [], ◌∷◌, Option, map, filter}
use Rattle.std.specs.Str.{bytes_eq}
use Rattle.forest.specs.Forest.{Forest, Empty, Tree}
use Rattle.forest.specs.Keys.{Keyed}
use Rattle.plain_types.specs.declared.box_id.BoxId.{BoxId}
use Rattle.plain_types.specs.declared.counter_style.CounterStyle.{CounterStyle}
use Rattle.plain_types.specs.declared.node.Node.{Node}
use Rattle.plain_types.specs.declared.style.ElementStyle.{ElementStyle}
use Rattle.plain_types.specs.declared.style.Style.{Style}
use Rattle.counter_sets.specs.Sets.{is_same_box}
use Rattle.reversed_start.specs.Starts.{start}
use Rattle.reversed_start.specs.declared.event.Event.{Event}
use Rattle.box_eval.specs.declared.change.Change.{Change}
use Rattle.box_eval.specs.declared.element_record.ElementRecord.{ElementRecord}
use Rattle.box_eval.specs.declared.inputs.Start.{Start}
use Rattle.box_eval.specs.Evaluation.{Element, StyledNode, all_changes, evaluation, is_boxed, styled}

-- the events of the counter of this name that this box created, in the order of the changes
abbrev pub events_of : List Change → BoxId → List ℕ → List Event
events_of changes creator name =
    map (λ (change : Change). change.event) (filter (λ (change : Change). is_same_box change.creator creator && bytes_eq change.name name) changes)

-- the starts that these changes give
abbrev pub starts_by : List Change → BoxId → List ℕ → ℤ
starts_by changes creator name = start (events_of changes creator name)

abbrev pub no_starts : BoxId → List ℕ → ℤ
no_starts creator name = pos 0

module _ (table : List CounterStyle) (style : ℕ → Option Style → ElementStyle) (document : Forest (Keyed Node)) where
  -- the starts of the document's reversed counters, by the box that creates them and their name
  abbrev pub document_starts : BoxId → List ℕ → ℤ
  document_starts = starts_by (all_changes table (styled style no_starts document))

  -- the document as it is evaluated, and what is said of its elements
  abbrev pub started : Forest (Keyed StyledNode)
  started = styled style document_starts document

  abbrev pub document_records : List (ℕ × ElementRecord)
  document_records = evaluation table started

-- Whether starts are asked for: a box asks for one where it creates a reversed counter without a number.

-- an element has such boxes, where these are the starts of their counters
abbrev pub has_starts : List Start → Bool
has_starts [] = false
has_starts (start ∷ starts) = true

-- a node does, which has a box or not
abbrev pub node_asks_for_start : Bool → StyledNode → Bool
node_asks_for_start true (Element element) = has_starts element.starts
node_asks_for_start _ label = false

-- some node of trees side by side does, whose parent has a box or not
abbrev pub any_asks_for_start : Bool → Forest (Keyed StyledNode) → Bool
any_asks_for_start boxed Empty = false
any_asks_for_start boxed (Tree node children after) =
    let has = is_boxed boxed node.label in
    node_asks_for_start has node.label || (any_asks_for_start has children || any_asks_for_start boxed after)
