-- The law of scopes and values, of each box of a document.
use Rattle.std.proofs.Common.{◌≡◌, ◌++◌, ◌∷◌, ◌||◌, ◌&&◌, ℕ, pos, List, [], true, false, not, Option, Some, None, map, refl, sym, ap, subst, ◌∙◌, inl, inr}
use Rattle.std.proofs.lemmas.Bool.{cases_Bool}
use Rattle.std.proofs.lemmas.List.{map-append}
use Rattle.std.specs.Prelude.{filter, find}
use Rattle.std.specs.List.{AllByRecursion, last_or, list_any}
use Rattle.std.specs.Option.{option_map, option_map_or}
use Rattle.forest.specs.Forest.{Forest, Empty, Tree, labels}
use Rattle.plain_types.specs.declared.box_id.BoxId.{BoxId}
use Rattle.plain_types.specs.declared.counter.Counter.{Counter}
use Rattle.plain_types.specs.declared.style.ResetOp.{ResetOp}
use Rattle.counter_sets.specs.Sets.{is_named, is_same_box}
use Rattle.box_eval.specs.declared.change.Change.{Change}
use Rattle.box_eval.specs.Elements.{at_root}
use Rattle.box_eval.specs.Laws.{OfEachDocument}
use Rattle.box_eval.specs.Properties.{first_value}
use Rattle.box_eval.proofs.DocumentLemmas as documents
use Rattle.box_eval.proofs.BoxLemmas.{box_eq, box_self}
use Rattle.box_eval.proofs.ListLemmas.{each_append, each_both, each_imp}
use Rattle.counter_scopes.specs.Boxes.{DocumentBox, box_with, document_boxes}
use Rattle.counter_scopes.specs.Counting.{changed_names, created, event_for, mentions, reset_for, resets}
use Rattle.counter_scopes.specs.Scopes.{creators_around, innermost_creator}
use Rattle.counter_scopes.specs.Values.{change_at, changes_at, counter_at}
use Rattle.counter_scopes.specs.Laws.{AreChangesOfBoxes, CreatesWhereAlone, HasTheirValues, HasThoseInScope, HoldsOfElement, OfEachBox, has_its_own, is_in_anothers_scope}
use Rattle.counter_scopes.proofs.BoxesLemmas.{HoldsOf, bridged}
use Rattle.counter_scopes.proofs.ChangeLemmas.{box_acts, change_from, change_with, changes_are, map_same}
use Rattle.counter_scopes.proofs.KeyLemmas.{distinct_boxes}
use Rattle.counter_scopes.proofs.OrderLemmas.{IsItem, each_self, item_in, labels_apart}
use Rattle.counter_scopes.proofs.ToldLemmas.{AreApart, HasDistinctBoxes, Worths, by_name, each_back, each_front, exit_of, is_in, own_set, sets, told_root}
use Rattle.counter_scopes.proofs.ValueLemmas.{IsAlone, told_box, told_boxes, traced_all}

head_is : {A : Type 0} (x y : A) (xs ys : List A) → x ∷ xs ≡ y ∷ ys → x ≡ y
head_is x y xs ys e = cc

tail_is : {A : Type 0} (x y : A) (xs ys : List A) → x ∷ xs ≡ y ∷ ys → xs ≡ ys
tail_is x y xs ys e = cc

-- what holds of each name holds of all names
each_name : {A : Type 0} (P : List ℕ → A → Type 0) (xs : List A) → ((name : List ℕ) → AllByRecursion (P name) xs) → AllByRecursion (λ x. (name : List ℕ) → P name x) xs
each_name P [] h = tt
each_name P (x ∷ xs) h = ((λ name. (h name).0), each_name P xs (λ name. (h name).1))

module _ (boxes : Forest DocumentBox) where
  abbrev IsTold : List ℕ → DocumentBox × List Counter → Type 0
  IsTold name pair = filter (is_named name) pair.1 ≡ map (counter_at boxes name pair.0.id) (creators_around name boxes pair.0.id)

  each_told : (name : List ℕ) (distinct : HasDistinctBoxes boxes) (v : Worths) (pairs : List (DocumentBox × List Counter)) (ls : List DocumentBox) → map (by_name name) pairs ≡ map (told_box name boxes distinct v) ls → AllByRecursion (IsTold name) pairs
  each_told name distinct v [] ls e = tt
  each_told name distinct v (pair ∷ pairs) [] e = absurd (cc)
  each_told name distinct v (pair ∷ pairs) (l ∷ ls) e =
      let here = head_is (by_name name pair) (told_box name boxes distinct v l) (map (by_name name) pairs) (map (told_box name boxes distinct v) ls) e in
      let box : pair.0 ≡ l = ap (λ (both : DocumentBox × List Counter). both.0) here in
      let named : filter (is_named name) pair.1 ≡ map (counter_at boxes name l.id) (creators_around name boxes l.id) = ap (λ (both : DocumentBox × List Counter). both.1) here in (
        subst (λ (other : DocumentBox). filter (is_named name) pair.1 ≡ map (counter_at boxes name other.id) (creators_around name boxes other.id)) (sym box) named,
        each_told name distinct v pairs ls (tail_is (by_name name pair) (told_box name boxes distinct v l) (map (by_name name) pairs) (map (told_box name boxes distinct v) ls) e),
      )

  pub sets_told : HasDistinctBoxes boxes → AllByRecursion (HoldsOf (HasTheirValues boxes)) (sets [] None None boxes)
  sets_told distinct =
      let v : Worths = λ _. record { reversed = false; value = pos 0 } in
      each_name IsTold (sets [] None None boxes) (λ name. each_told name distinct v (sets [] None None boxes) (labels boxes) (told_root name boxes v distinct ∙ told_boxes name boxes distinct v))

  -- a counter's creator is the box that creates it
  pub created_by : (name : List ℕ) (box : DocumentBox) → (created name box).creator ≡ box.id
  created_by name box = by_reset (reset_for name box)
    where
      by_reset : (reset : Option ResetOp) → (let made : Counter = option_map_or (λ (reset : ResetOp). record { name = name; creator = box.id; reversed = reset.reversed; value = first_value box.starts box.id reset }) reset (record { name = name; creator = box.id; reversed = false; value = pos 0 }) in made.creator) ≡ box.id
      by_reset None = refl
      by_reset (Some reset) = refl

  creators_map : (name : List ℕ) (box : BoxId) (xs : List DocumentBox) → map (λ (counter : Counter). counter.creator) (map (counter_at boxes name box) xs) ≡ map (λ (creator : DocumentBox). creator.id) xs
  creators_map name box [] = refl
  creators_map name box (x ∷ xs) =
      ap (λ id. id ∷ map (λ (counter : Counter). counter.creator) (map (counter_at boxes name box) xs)) (created_by name x)
      ∙ ap (λ all. x.id ∷ all) (creators_map name box xs)

  pub values_scope : (box : BoxId) (set : List Counter) → HasTheirValues boxes box set → HasThoseInScope boxes box set
  values_scope box set h name = ap (map (λ (counter : Counter). counter.creator)) (h name) ∙ creators_map name box (creators_around name boxes box)

  -- Who creates.

  any_creator : (name : List ℕ) (box : BoxId) (set : List Counter) → has_its_own boxes box set name ≡ list_any (λ (id : BoxId). is_same_box id box) (map (λ (counter : Counter). counter.creator) (filter (is_named name) set))
  any_creator name box [] = refl
  any_creator name box (counter ∷ set) = elim (cases_Bool (is_named name counter)) [
    | inl e ↦ rw e (ap (λ t. is_same_box counter.creator box || t) (any_creator name box set))
    | inr e ↦ rw e (any_creator name box set)
  ]

  any_id : (box : BoxId) (xs : List DocumentBox) → list_any (λ (id : BoxId). is_same_box id box) (map (λ (creator : DocumentBox). creator.id) xs) ≡ is_in box xs
  any_id box [] = refl
  any_id box (x ∷ xs) = ap (λ t. is_same_box x.id box || t) (any_id box xs)

  its_own : (box : BoxId) (set : List Counter) → HasThoseInScope boxes box set → (name : List ℕ) → has_its_own boxes box set name ≡ is_in box (creators_around name boxes box)
  its_own box set h name = any_creator name box set ∙ ap (list_any (λ (id : BoxId). is_same_box id box)) (h name) ∙ any_id box (creators_around name boxes box)

  -- each box of the forest is found by its id
  found : (x : DocumentBox) (xs : List DocumentBox) → AreApart xs → IsItem x xs → find (λ (box : DocumentBox). is_same_box box.id x.id) xs ≡ Some x
  found x [] apart item = absurd item
  found x (y ∷ ys) apart (inl e) = subst (λ (z : DocumentBox). find (λ (box : DocumentBox). is_same_box box.id z.id) (y ∷ ys) ≡ Some z) e (rw (box_self y.id) refl)
  found x (y ∷ ys) apart (inr i) = elim (cases_Bool (is_same_box y.id x.id)) [
    | inl e ↦ absurd (let no : is_in x.id ys ≡ false = ap (λ box. is_in box ys) (sym (box_eq y.id x.id e)) ∙ apart.0 in let yes = item_in x ys i in cc)
    | inr e ↦ rw e (found x ys apart.1 i)
  ]

  abbrev IsFoundAlone : DocumentBox → Type 0
  IsFoundAlone box = (box_with box.id boxes ≡ Some box) × ((name : List ℕ) → IsAlone name boxes box)

  found_alone : HasDistinctBoxes boxes → AllByRecursion IsFoundAlone (labels boxes)
  found_alone distinct =
      let alone : AllByRecursion (λ (box : DocumentBox). (name : List ℕ) → IsAlone name boxes box) (labels boxes) =
      each_name (λ name. IsAlone name boxes) (labels boxes) (λ name. (traced_all name boxes distinct (λ _. record { reversed = false; value = pos 0 })).created) in
      let there = each_imp (λ (box : DocumentBox). IsItem box (labels boxes)) (λ (box : DocumentBox). box_with box.id boxes ≡ Some box) (λ box i. found box (labels boxes) (labels_apart boxes distinct) i) (labels boxes) (each_self (labels boxes)) in
      each_both (λ (box : DocumentBox). box_with box.id boxes ≡ Some box) (λ (box : DocumentBox). (name : List ℕ) → IsAlone name boxes box) (labels boxes) there alone

  -- what holds of each box holds of those of the sets
  of_sets : (P : DocumentBox → Type 0) (trees : Forest DocumentBox) (parent : List Counter) (sibling preceding : Option (List Counter)) → AllByRecursion P (labels trees) → AllByRecursion (λ (pair : DocumentBox × List Counter). P pair.0) (sets parent sibling preceding trees)
  of_sets P Empty parent sibling preceding h = tt
  of_sets P (Tree root children after) parent sibling preceding h =
      let own = own_set parent sibling preceding root in
      let exit = exit_of own None (Some own) children in (
        h.0,
        each_append (λ (pair : DocumentBox × List Counter). P pair.0) (sets own None (Some own) children) (sets parent (Some own) exit after)
            (of_sets P children own None (Some own) (each_front P (labels children) (labels after) h.1))
            (of_sets P after parent (Some own) exit (each_back P (labels children) (labels after) h.1)),
      )

  created_alone : (pair : DocumentBox × List Counter) → (HoldsOf (HasTheirValues boxes) pair) × IsFoundAlone pair.0 → HoldsOf (CreatesWhereAlone boxes) pair
  created_alone pair h name =
      its_own pair.0.id pair.1 (values_scope pair.0.id pair.1 h.0) name
      ∙ h.1.1 name
      ∙ sym (ap (λ box. option_map_or (λ acting. resets name acting || (mentions name acting && not (is_in_anothers_scope boxes pair.0.id name))) box false) h.1.0)

  pub sets_alone : HasDistinctBoxes boxes → AllByRecursion (HoldsOf (CreatesWhereAlone boxes)) (sets [] None None boxes)
  sets_alone distinct =
      let all = each_both (HoldsOf (HasTheirValues boxes)) (λ (pair : DocumentBox × List Counter). IsFoundAlone pair.0) (sets [] None None boxes) (sets_told distinct) (of_sets IsFoundAlone boxes [] None None (found_alone distinct)) in
      each_imp (λ pair. (HoldsOf (HasTheirValues boxes) pair) × IsFoundAlone pair.0) (HoldsOf (CreatesWhereAlone boxes)) created_alone (sets [] None None boxes) all

  -- What boxes do to counters.

  set_labels : (trees : Forest DocumentBox) (parent : List Counter) (sibling preceding : Option (List Counter)) → map (λ (pair : DocumentBox × List Counter). pair.0) (sets parent sibling preceding trees) ≡ labels trees
  set_labels Empty parent sibling preceding = refl
  set_labels (Tree root children after) parent sibling preceding =
      let own = own_set parent sibling preceding root in
      let exit = exit_of own None (Some own) children in
      let box_of_pair : DocumentBox × List Counter → DocumentBox = λ pair. pair.0 in
      ap (λ all. root ∷ all)
      (map-append box_of_pair (sets own None (Some own) children) (sets parent (Some own) exit after)
      ∙ ap (λ all. all ++ map box_of_pair (sets parent (Some own) exit after)) (set_labels children own None (Some own))
      ∙ ap (λ all. labels children ++ all) (set_labels after parent (Some own) exit))

  last_map : {A B : Type 0} (f : A → B) (otherwise : Option A) (xs : List A) → last_or (option_map f otherwise) (map f xs) ≡ option_map f (last_or otherwise xs)
  last_map f otherwise [] = refl
  last_map f otherwise (x ∷ xs) = last_map f (Some x) xs

  abbrev change_by : DocumentBox → List ℕ → Option DocumentBox → Change
  change_by box name innermost = record {
    creator = option_map_or (λ (creator : DocumentBox). creator.id) innermost box.id;
    name = name;
    event = event_for name box (option_map_or (λ creator. (created name creator).reversed) innermost false);
  }

  change_told : (pair : DocumentBox × List Counter) → HoldsOf (HasTheirValues boxes) pair → (name : List ℕ) → change_from pair.0 pair.1 name ≡ change_at boxes pair.0 name
  change_told pair h name =
      ap (change_with pair.0 name) (ap (last_or None) (h name) ∙ last_map (counter_at boxes name pair.0.id) None (creators_around name boxes pair.0.id))
      ∙ by_innermost (innermost_creator name boxes pair.0.id)
    where
      by_innermost : (o : Option DocumentBox) → change_with pair.0 name (option_map (counter_at boxes name pair.0.id) o) ≡ change_by pair.0 name o
      by_innermost None = refl
      by_innermost (Some creator) = ap (λ id. record { creator = id; name = name; event = event_for name pair.0 (created name creator).reversed }) (created_by name creator)

  -- a box, and what it does
  abbrev with_changes : DocumentBox → BoxId × List Change
  with_changes box = (box.id, changes_at boxes box)

  changes_told : (pairs : List (DocumentBox × List Counter)) → AllByRecursion (HoldsOf (HasTheirValues boxes)) pairs → map box_acts pairs ≡ map with_changes (map (λ (pair : DocumentBox × List Counter). pair.0) pairs)
  changes_told [] h = refl
  changes_told (pair ∷ pairs) h =
      ap (λ changes. (pair.0.id, changes) ∷ map box_acts pairs) (map_same (change_from pair.0 pair.1) (change_at boxes pair.0) (change_told pair h.0) (changed_names pair.0))
      ∙ ap (λ all. with_changes pair.0 ∷ all) (changes_told pairs h.1)

  pub sets_changes : HasDistinctBoxes boxes → map box_acts (sets [] None None boxes) ≡ map with_changes (labels boxes)
  sets_changes distinct = changes_told (sets [] None None boxes) (sets_told distinct) ∙ ap (map with_changes) (set_labels boxes [] None None)

-- the evaluation by peers is that by the parent's set
each_record : (Law : Forest DocumentBox → BoxId → List Counter → Type 0) → ((boxes : Forest DocumentBox) → HasDistinctBoxes boxes → AllByRecursion (HoldsOf (Law boxes)) (sets [] None None boxes)) → OfEachBox Law
each_record Law law table document distinct =
    let boxes = document_boxes document in
    let same = (documents.told table document true at_root distinct (documents.root_level document)).records in
    subst (AllByRecursion (HoldsOfElement (Law boxes))) (sym same) ((bridged (Law boxes) table document true at_root).holds (law boxes (distinct_boxes document distinct)))

pub values_hold : OfEachBox HasTheirValues
values_hold = each_record HasTheirValues sets_told

pub scopes_hold : OfEachBox HasThoseInScope
scopes_hold =
    each_record HasThoseInScope
    (λ boxes distinct. each_imp (HoldsOf (HasTheirValues boxes)) (HoldsOf (HasThoseInScope boxes)) (λ pair h. values_scope boxes pair.0.id pair.1 h) (sets [] None None boxes) (sets_told boxes distinct))

pub creations_hold : OfEachBox CreatesWhereAlone
creations_hold = each_record CreatesWhereAlone sets_alone

pub changes_hold : OfEachDocument AreChangesOfBoxes
changes_hold table document distinct =
    (documents.told table document true at_root distinct (documents.root_level document)).box_changes
    ∙ changes_are table document true at_root
    ∙ sets_changes (document_boxes document) (distinct_boxes document distinct)
