-- The law of scopes and values: CSS Lists 3, 4.4. Which counters are in the set of a box, and with which value,
-- is told without the sets of its parent, its siblings and the box before it.
use Rattle.std.specs.Prelude.{◌≡◌, ℕ, Bool, true, false, not, ◌&&◌, ◌||◌, List, Option, Some, None, map, filter}
use Rattle.std.specs.List.{AllByRecursion, list_any}
use Rattle.std.specs.Option.{option_map_or}
use Rattle.forest.specs.Forest.{Forest, labels}
use Rattle.forest.specs.Keys.{Keyed, HasDistinctKeys}
use Rattle.plain_types.specs.declared.box_id.BoxId.{BoxId}
use Rattle.plain_types.specs.declared.box_kind.BoxKind.TheVariants as kind
use Rattle.plain_types.specs.declared.counter.Counter.{Counter}
use Rattle.plain_types.specs.declared.counter_style.CounterStyle.{CounterStyle}
use Rattle.counter_sets.specs.Sets.{is_named, is_same_box}
use Rattle.box_eval.specs.declared.element_record.ElementRecord.{ElementRecord}
use Rattle.box_eval.specs.declared.made.Made.{Made}
use Rattle.box_eval.specs.Boxes.{box_of}
use Rattle.box_eval.specs.Evaluation.{StyledNode, all_box_changes, evaluation}
use Rattle.counter_scopes.specs.Boxes.{DocumentBox, box_with, document_boxes}
use Rattle.counter_scopes.specs.Counting.{mentions, resets}
use Rattle.counter_scopes.specs.Scopes.{creators_around}
use Rattle.counter_scopes.specs.Values.{changes_at, counter_at}

module _ (boxes : Forest DocumentBox) (box : BoxId) where
  -- the box is in the scope of a counter of the name that another box created
  abbrev pub is_in_anothers_scope : List ℕ → Bool
  is_in_anothers_scope name = list_any (λ (creator : DocumentBox). not (is_same_box creator.id box)) (creators_around name boxes box)

  module _ (set : List Counter) where
    -- its set has a counter of the name that the box itself created
    abbrev pub has_its_own : List ℕ → Bool
    has_its_own name = list_any (λ (counter : Counter). is_named name counter && is_same_box counter.creator box) set

    -- 4.1 and 4.2: A box creates a counter of a name exactly where it resets the name, or increments, sets or uses it
    -- and is in the scope of no other counter of the name.
    abbrev pub CreatesWhereAlone : Type 0
    CreatesWhereAlone =
        (name : List ℕ) → has_its_own name ≡ option_map_or (λ acting. resets name acting || (mentions name acting && not (is_in_anothers_scope name))) (box_with box boxes) false

    -- 4.4: A counter is in the set of a box exactly where a box created it and this one is in its scope. Those of
    -- one name stand in the tree order of their creators.
    abbrev pub HasThoseInScope : Type 0
    HasThoseInScope =
        (name : List ℕ) → map (λ (counter : Counter). counter.creator) (filter (is_named name) set) ≡ map (λ (creator : DocumentBox). creator.id) (creators_around name boxes box)

    -- 4.2: And each is as it was created, with the value that its events up to this box made of it.
    abbrev pub HasTheirValues : Type 0
    HasTheirValues = (name : List ℕ) → filter (is_named name) set ≡ map (counter_at boxes name box) (creators_around name boxes box)

-- A law of the sets of boxes, of each box of an element.
module _ (Holds : BoxId → List Counter → Type 0) where
  abbrev pub HoldsOfMade : BoxId → Option Made → Type 0
  HoldsOfMade box None = Unit {0}
  HoldsOfMade box (Some made) = Holds box made.set

  pub record HoldsOfBoxes (key : ℕ) (element : ElementRecord) : Type 0 where
    pub own : Holds (box_of key kind.Element) element.own
    pub marker : HoldsOfMade (box_of key kind.Marker) element.marker
    pub before : HoldsOfMade (box_of key kind.Before) element.before
    pub after : HoldsOfMade (box_of key kind.After) element.after

  abbrev pub HoldsOfElement : ℕ × ElementRecord → Type 0
  HoldsOfElement (key, element) = element.has_box ≡ true → HoldsOfBoxes key element

-- and of each box of each document, where its evaluation is this one
abbrev pub OfEachBox : (Forest DocumentBox → BoxId → List Counter → Type 0) → Type 0
OfEachBox Law =
    (table : List CounterStyle) (document : Forest (Keyed StyledNode)) → HasDistinctKeys document
    → AllByRecursion (HoldsOfElement (Law (document_boxes document))) (evaluation table document)

-- 4.2: What the evaluation of a document tells of each box is what that box does to its innermost counters of the names
-- that it increments or sets; the boxes stand in tree order. By these changes the values are told.
abbrev pub AreChangesOfBoxes : List CounterStyle → Forest (Keyed StyledNode) → Type 0
AreChangesOfBoxes table document =
    let boxes = document_boxes document in
    all_box_changes table document ≡ map (λ (box : DocumentBox). (box.id, changes_at boxes box)) (labels boxes)
