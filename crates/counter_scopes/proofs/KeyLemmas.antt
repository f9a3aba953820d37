-- A box stands once among a document's boxes.
use Rattle.std.proofs.Common.{◌≡◌, ◌+◌, ◌≤◌, ◌==◌, ◌&&◌, ℕ, Bool, true, false, cond, refl, inl, inr, arith}
use Rattle.std.proofs.lemmas.Bool.{cases_Bool}
use Rattle.std.specs.Prelude.{if◌then◌else◌}
use Rattle.forest.specs.Forest.{Forest, Empty, Tree}
use Rattle.forest.specs.Keys as keys
use Rattle.forest.specs.Keys.{Keyed, HasDistinctKeys}
use Rattle.plain_types.specs.declared.box_id.BoxId.{BoxId}
use Rattle.plain_types.specs.declared.box_kind.BoxKind.{BoxKind}
use Rattle.plain_types.specs.declared.box_kind.BoxKind.TheVariants as kind
use Rattle.counter_sets.specs.Sets.{is_same_box, is_same_kind}
use Rattle.box_eval.specs.Boxes.{has_marker, has_pseudo_box}
use Rattle.box_eval.specs.Evaluation.{Element, StyledNode, Text, is_boxed}
use Rattle.counter_scopes.specs.Boxes.{DocumentBox, beside, boxes_in, document_boxes, leaf, marker_box, node_boxes, pseudo_box}
use Rattle.counter_scopes.proofs.ToldLemmas.{HasDistinctBoxes, times}

times_beside : (b : BoxId) (f trees : Forest DocumentBox) → times b (beside f trees) ≡ times b f + times b trees
times_beside b Empty trees = omega arith
times_beside b (Tree root children after) trees = let rest = times_beside b after trees in omega arith

times_leaf : (b : BoxId) (there : Bool) (box : DocumentBox) → times b (leaf there box) ≤ cond (is_same_box box.id b) 1 0
times_leaf b true box = omega arith
times_leaf b false box = omega arith

abbrev one_of : Bool → BoxKind → BoxKind → ℕ
one_of same first second = cond (same && is_same_kind first second) 1 0

one_kind : (same : Bool) (which : BoxKind) → one_of same kind.Element which + (one_of same kind.Marker which + (one_of same kind.Before which + one_of same kind.After which)) ≤ cond same 1 0
one_kind true kind.Element = omega arith
one_kind true kind.Marker = omega arith
one_kind true kind.Before = omega arith
one_kind true kind.After = omega arith
one_kind false which = omega arith

abbrev own_key : ℕ → BoxId → ℕ
own_key key b = if key == b.key then 1 else 0

by_test : (key : ℕ) (b : BoxId) → cond (key == b.key) 1 0 ≡ own_key key b
by_test key b = elim (cases_Bool (key == b.key)) [ inl e ↦ rw e refl | inr e ↦ rw e refl ]

node_once : (has : Bool) (key : ℕ) (label : StyledNode) (b : BoxId) (inside : Forest DocumentBox) → times b (node_boxes has key label inside) ≤ own_key key b + times b inside
node_once true key (Element element) b inside =
    let marker = leaf (has_marker element.style) (marker_box key element) in
    let before = leaf (has_pseudo_box element.style.before) (pseudo_box key element kind.Before element.style.before) in
    let after = leaf (has_pseudo_box element.style.after) (pseudo_box key element kind.After element.style.after) in
    let one = times_beside b marker (beside before (beside inside after)) in
    let two = times_beside b before (beside inside after) in
    let three = times_beside b inside after in
    let four = times_leaf b (has_marker element.style) (marker_box key element) in
    let five = times_leaf b (has_pseudo_box element.style.before) (pseudo_box key element kind.Before element.style.before) in
    let six = times_leaf b (has_pseudo_box element.style.after) (pseudo_box key element kind.After element.style.after) in
    let kinds = one_kind (key == b.key) b.kind in
    let test = by_test key b in
    omega arith
node_once true key Text b inside = omega arith
node_once false key label b inside = omega arith

boxes_once : (trees : Forest (Keyed StyledNode)) (boxed : Bool) (b : BoxId) → times b (boxes_in boxed trees) ≤ keys.times b.key trees
boxes_once Empty boxed b = omega arith
boxes_once (Tree node children after) boxed b =
    let has = is_boxed boxed node.label in
    let split = times_beside b (node_boxes has node.key node.label (boxes_in has children)) (boxes_in boxed after) in
    let here = node_once has node.key node.label b (boxes_in has children) in
    let below = boxes_once children has b in
    let rest = boxes_once after boxed b in
    let whole : keys.times b.key (Tree node children after) ≡ own_key node.key b + (keys.times b.key children + keys.times b.key after) = refl in
    omega arith

pub distinct_boxes : (document : Forest (Keyed StyledNode)) → HasDistinctKeys document → HasDistinctBoxes (document_boxes document)
distinct_boxes document distinct b = let once = boxes_once document true b in let key = distinct b.key in omega arith
