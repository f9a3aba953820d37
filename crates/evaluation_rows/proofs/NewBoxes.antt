-- Boxes that have not been before.
use Rattle.std.proofs.Common.{◌≡◌, ◌++◌, ◌∷◌, ◌||◌, ◌&&◌, ℕ, List, [], Bool, true, false, cond, refl}
use Rattle.std.specs.Prelude.{not, unwrap_or}
use Rattle.std.specs.List.{list_all}
use Rattle.plain_types.specs.declared.box_id.BoxId.{BoxId}
use Rattle.plain_types.specs.declared.box_kind.BoxKind.TheVariants as kind
use Rattle.plain_types.specs.declared.counter.Counter.{Counter}
use Rattle.plain_types.specs.declared.style.ElementStyle.{ElementStyle}
use Rattle.counter_sets.specs.Sets.{is_by_peer, is_same_box}
use Rattle.box_eval.specs.declared.inputs.Inputs.{Inputs}
use Rattle.box_eval.specs.Boxes.{box_of, has_marker, has_pseudo_box}
use Rattle.box_eval.specs.Scopes.{AreNew, HasNoneOf, first_boxes, last_boxes}
use Rattle.box_eval.proofs.ListLemmas.{each_imp, or_none, or_parts}

-- What a test of each counter says.
and_parts : (a b : Bool) → (a && b) ≡ true → (a ≡ true) × (b ≡ true)
and_parts true b h = (refl, h)
and_parts false b h = absurd (cc)

not_true : (b : Bool) → not b ≡ true → b ≡ false
not_true true h = absurd (cc)
not_true false h = refl

pub none_of : (boxes : List BoxId) (set : List Counter) → list_all (λ counter. not (is_by_peer boxes counter)) set ≡ true → HasNoneOf boxes set
none_of boxes [] h = tt
none_of boxes (counter ∷ set) h =
    let parts = and_parts (not (is_by_peer boxes counter)) (list_all (λ counter. not (is_by_peer boxes counter)) set) h in
    (not_true (is_by_peer boxes counter) parts.0, none_of boxes set parts.1)

-- Which counters were created by none of fewer boxes.
abbrev Has : List BoxId → Counter → Type 0
Has boxes counter = is_by_peer boxes counter ≡ false

fewer_new : (boxes few : List BoxId) → ((counter : Counter) → Has boxes counter → Has few counter) → (inputs : Inputs) → AreNew boxes inputs → AreNew few inputs
fewer_new boxes few fewer inputs new =
    record {
      parent = each_imp (Has boxes) (Has few) fewer inputs.parent new.parent;
      sibling = each_imp (Has boxes) (Has few) fewer (unwrap_or inputs.sibling []) new.sibling;
    }

apart : (own marker before : BoxId) (counter : Counter) → Has (own ∷ marker ∷ before ∷ []) counter → (is_same_box counter.creator own ≡ false) × ((is_same_box counter.creator marker ≡ false) × ((is_same_box counter.creator before || false) ≡ false))
apart own marker before counter none =
    let outer = or_parts (is_same_box counter.creator own) (is_same_box counter.creator marker || (is_same_box counter.creator before || false)) none in
    let inner = or_parts (is_same_box counter.creator marker) (is_same_box counter.creator before || false) outer.1 in
    (outer.0, (inner.0, inner.1))

three : (own marker before : BoxId) (has_marker has_before : Bool) (counter : Counter) → Has (own ∷ marker ∷ before ∷ []) counter → Has (own ∷ (cond has_marker (marker ∷ []) [] ++ cond has_before (before ∷ []) [])) counter
three own marker before true true counter none = none
three own marker before true false counter none =
    let parts = apart own marker before counter none in
    or_none (is_same_box counter.creator own) (is_same_box counter.creator marker || false) parts.0 (or_none (is_same_box counter.creator marker) false parts.1.0 refl)
three own marker before false true counter none =
    let parts = apart own marker before counter none in
    or_none (is_same_box counter.creator own) (is_same_box counter.creator before || false) parts.0 parts.1.1
three own marker before false false counter none =
    let parts = apart own marker before counter none in
    or_none (is_same_box counter.creator own) false parts.0 refl

pub first_new : (key : ℕ) (style : ElementStyle) (inputs : Inputs) → AreNew (box_of key kind.Element ∷ box_of key kind.Marker ∷ box_of key kind.Before ∷ []) inputs → AreNew (first_boxes key style) inputs
first_new key style inputs =
    fewer_new (box_of key kind.Element ∷ box_of key kind.Marker ∷ box_of key kind.Before ∷ []) (first_boxes key style)
    (three (box_of key kind.Element) (box_of key kind.Marker) (box_of key kind.Before) (has_marker style) (has_pseudo_box style.before)) inputs

one : (after : BoxId) (has_after : Bool) (counter : Counter) → Has (after ∷ []) counter → Has (cond has_after (after ∷ []) []) counter
one after true counter none = none
one after false counter none = refl

pub last_new : (key : ℕ) (style : ElementStyle) (inputs : Inputs) → AreNew (box_of key kind.After ∷ []) inputs → AreNew (last_boxes key style) inputs
last_new key style inputs =
    fewer_new (box_of key kind.After ∷ []) (last_boxes key style) (one (box_of key kind.After) (has_pseudo_box style.after)) inputs
