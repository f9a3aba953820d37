-- By which boxes the counters of an element's inputs were created (our own). What a box replaces is told by the
-- boxes that created it, and in every document by the parent's set too.
use Rattle.std.specs.Prelude.{◌≡◌, ◌⊎◌, IsSome, Some, ℕ, true, false, List, [], ◌∷◌, ◌++◌, cond, unwrap_or}
use Rattle.std.specs.List.{AllByRecursion}
use Rattle.plain_types.specs.declared.box_id.BoxId.{BoxId}
use Rattle.plain_types.specs.declared.box_kind.BoxKind.TheVariants as kind
use Rattle.plain_types.specs.declared.counter.Counter.{Counter}
use Rattle.plain_types.specs.declared.style.ElementStyle.{ElementStyle}
use Rattle.counter_sets.specs.Sets.{is_by_peer, is_missing_in}
use Rattle.box_eval.specs.declared.inputs.Inputs.{Inputs}
use Rattle.box_eval.specs.Boxes.{box_of, has_marker, has_pseudo_box}

-- the boxes of an element that come before those of its children, and after them
abbrev pub first_boxes : ℕ → ElementStyle → List BoxId
first_boxes key style =
    box_of key kind.Element ∷ (cond (has_marker style) (box_of key kind.Marker ∷ []) [] ++ cond (has_pseudo_box style.before) (box_of key kind.Before ∷ []) [])

abbrev pub last_boxes : ℕ → ElementStyle → List BoxId
last_boxes key style = cond (has_pseudo_box style.after) (box_of key kind.After ∷ []) []

-- none of these counters was created by one of these boxes
abbrev pub HasNoneOf : List BoxId → List Counter → Type 0
HasNoneOf boxes set = AllByRecursion (λ counter. is_by_peer boxes counter ≡ false) set

-- no counter that the inputs hand on was created by these boxes; the preceding box's set lends values alone
pub record AreNew (boxes : List BoxId) (inputs : Inputs) : Type 0 where
  pub parent : HasNoneOf boxes inputs.parent
  pub sibling : HasNoneOf boxes (unwrap_or inputs.sibling [])

-- these can be the sibling boxes before: they created what the sibling's set has besides the parent's, and
-- nothing in the parent's
pub record AreEarlier (earlier : List BoxId) (inputs : Inputs) : Type 0 where
  pub parent : HasNoneOf earlier inputs.parent
  pub sibling : AllByRecursion (λ counter. is_missing_in inputs.parent counter ≡ true → is_by_peer earlier counter ≡ true) (unwrap_or inputs.sibling [])

-- the inputs are those behind an element's children: the last box before is in the element, or is its own box
abbrev pub AreBehindChildren : Inputs → Type 0
AreBehindChildren inputs = (IsSome inputs.preceding × IsSome inputs.sibling) ⊎ (inputs.preceding ≡ Some inputs.parent)
