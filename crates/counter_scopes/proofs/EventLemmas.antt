-- The events of one counter are what the boxes at which it is the innermost make of its value.
use Rattle.std.proofs.Common.{◌≡◌, ◌++◌, ◌∷◌, ◌||◌, ◌&&◌, ℕ, ℤ, List, [], Bool, true, false, cond, not, Option, Some, None, map, refl, sym, ap, subst, ◌∙◌, inl, inr, append_assoc}
use Rattle.std.proofs.lemmas.List.{map-append}
use Rattle.std.proofs.lemmas.Bool.{cases_Bool}
use Rattle.std.proofs.lemmas.List.Elements.{filter-append}
use Rattle.std.specs.Prelude.{filter, find, is_some, pos, unwrap_or}
use Rattle.std.specs.List.{AllByRecursion, fold, last_or, list_any}
use Rattle.std.specs.Option.{option_map_or}
use Rattle.std.specs.Str.{bytes_eq}
use Rattle.css_definitions.specs.CounterStyles.{distinct}
use Rattle.forest.specs.Forest.{Forest, labels}
use Rattle.plain_types.specs.Counts.{count_sum}
use Rattle.plain_types.specs.declared.box_id.BoxId.{BoxId}
use Rattle.plain_types.specs.declared.counter.Counter.{Counter}
use Rattle.plain_types.specs.declared.style.CounterOp.{CounterOp}
use Rattle.counter_sets.specs.Sets.{is_same_box}
use Rattle.reversed_start.specs.declared.event.Event.{Event}
use Rattle.box_eval.specs.declared.change.Change.{Change}
use Rattle.box_eval.specs.Properties.{has_implicit_step, is_for, last_assigns, list_item, names, number_for}
use Rattle.box_eval.specs.Starts.{events_of}
use Rattle.box_eval.proofs.BoxLemmas.{box_eq, box_self}
use Rattle.box_eval.proofs.ListLemmas.{or_parts}
use Rattle.counter_scopes.specs.Boxes.{DocumentBox}
use Rattle.counter_scopes.specs.Counting.{assigned_for, changed_names, created, event_for, increment_for, incremented_names}
use Rattle.counter_scopes.specs.Scopes.{creators, creators_around, innermost_creator, is_in_scope}
use Rattle.counter_scopes.specs.Values.{boxes_up_to, change_at, changes_at, changes_by, counter_at, value_after}
use Rattle.counter_scopes.proofs.CountLemmas.{changed, changed_value, either_adds}
use Rattle.counter_scopes.proofs.NameLemmas.{name_eq, name_self}
use Rattle.counter_scopes.proofs.OpLemmas.{Once, any_names, find_distinct, is_it, not_named, once_distinct, once_last}
use Rattle.counter_scopes.proofs.OrderLemmas.{IsItem, each_item, filter_in, item_in, item_stands, labels_apart, made_items, scope_up_to}
use Rattle.counter_scopes.proofs.ScopeLemmas.{creators_are, fold_append, scope_self}
use Rattle.counter_scopes.proofs.ToldLemmas.{AreApart, HasDistinctBoxes, in_append, is_in}

-- What passes a test that one item at most passes.

filter_none : {A : Type 0} (test : A → Bool) (xs : List A) → list_any test xs ≡ false → filter test xs ≡ []
filter_none test [] h = refl
filter_none test (x ∷ xs) h = elim (cases_Bool (test x)) [ inl e ↦ absurd (let bad : (true || list_any test xs) ≡ false = rw e at h in cc) | inr e ↦ rw e (filter_none test xs (rw e at h)) ]

filter_once : {A : Type 0} (test : A → Bool) (xs : List A) → Once test xs → filter test xs ≡ option_map_or (λ x. x ∷ []) (find test xs) []
filter_once test [] h = refl
filter_once test (x ∷ xs) h = elim (cases_Bool (test x)) [ inl e ↦ rw e (ap (λ all. x ∷ all) (filter_none test xs (h.0 e))) | inr e ↦ rw e (filter_once test xs h.1) ]

any_passed : {A : Type 0} (test : A → Bool) (xs : List A) → list_any test xs ≡ list_any (λ x. true) (filter test xs)
any_passed test [] = refl
any_passed test (x ∷ xs) = elim (cases_Bool (test x)) [ inl e ↦ rw e refl | inr e ↦ rw e (any_passed test xs) ]

module _ (name : List ℕ) where
  abbrev named_once : Bool → List (List ℕ)
  named_once there = cond there (name ∷ []) []

  any_once : (there : Bool) → list_any (λ (other : List ℕ). true) (named_once there) ≡ there
  any_once true = refl
  any_once false = refl

  -- The names that a box changes.

  abbrev pub is_changed_by : DocumentBox → Bool
  is_changed_by box = is_some (increment_for name box false) || is_some (assigned_for name box)

  distinct_named : (ops : List CounterOp) → filter (is_it name) (distinct (names ops)) ≡ named_once (list_any (is_for name) ops)
  distinct_named ops =
      filter_once (is_it name) (distinct (names ops)) (once_distinct name (names ops))
      ∙ ap (λ found. option_map_or (λ other. other ∷ []) found []) (find_distinct name (names ops) ∙ ap (λ b. cond b (Some name) None) (any_names name ops))
      ∙ either (list_any (is_for name) ops)
    where
      either : (b : Bool) → option_map_or (λ other. other ∷ []) (cond b (Some name) None) [] ≡ named_once b
      either true = refl
      either false = refl

  incremented_named : (box : DocumentBox) → filter (is_it name) (incremented_names box) ≡ named_once (is_some (increment_for name box false))
  incremented_named box =
      let implicit = has_implicit_step box.is_item box.increments in
      filter-append (is_it name) (distinct (names box.increments)) (cond implicit (list_item ∷ []) [])
      ∙ ap (λ all. all ++ filter (is_it name) (cond implicit (list_item ∷ []) [])) (distinct_named box.increments)
      ∙ elim (cases_Bool (list_any (is_for name) box.increments)) [
        | inl e ↦ rw e (elim (cases_Bool implicit) [
          | inl h ↦ rw h (elim (cases_Bool (is_it name list_item)) [
            | inl t ↦ absurd (let no = not_named name box.is_item box.increments [] h t in cc)
            | inr t ↦ rw t refl
          ])
          | inr h ↦ rw h refl
        ])
        | inr e ↦ rw e (elim (cases_Bool implicit) [
          | inl h ↦ rw h (elim (cases_Bool (is_it name list_item)) [
            | inl t ↦ rw t (ap (λ other. other ∷ []) (name_eq list_item name t))
            | inr t ↦ rw t refl
          ])
          | inr h ↦ rw h refl
        ])
      ]

  -- of a list without what is in another
  others_named : (before all : List (List ℕ)) (there : Bool) → list_any (is_it name) before ≡ there → filter (is_it name) (filter (λ second. not (list_any (λ first. bytes_eq first second) before)) all) ≡ cond there [] (filter (is_it name) all)
  others_named before [] there e = let none : List (List ℕ) = [] in elim there as (λ t. none ≡ cond t none none) [ true ↦ refl | false ↦ refl ]
  others_named before (second ∷ all) there e = elim (cases_Bool (is_it name second)) [
    | inl t ↦
        let kept : not (list_any (λ first. bytes_eq first second) before) ≡ not there = ap (λ other. not (list_any (λ first. bytes_eq first other) before)) (name_eq second name t) ∙ ap not e in
        rw kept (here there t (others_named before all there e))
    | inr t ↦ elim (cases_Bool (list_any (λ first. bytes_eq first second) before)) [
      | inl k ↦ rw (k, t) (others_named before all there e)
      | inr k ↦ rw (k, t) (others_named before all there e)
    ]
  ]
    where
      here : (there : Bool) → is_it name second ≡ true
          → filter (is_it name) (filter (λ second. not (list_any (λ first. bytes_eq first second) before)) all) ≡ cond there [] (filter (is_it name) all)
          → filter (is_it name) (cond (not there) (second ∷ filter (λ second. not (list_any (λ first. bytes_eq first second) before)) all) (filter (λ second. not (list_any (λ first. bytes_eq first second) before)) all)) ≡ cond there [] (filter (is_it name) (second ∷ all))
      here true t h = h
      here false t h = rw t (ap (λ all. second ∷ all) h)

  ops_none : (ops : List CounterOp) → list_any (is_for name) ops ≡ false → filter (is_it name) (names ops) ≡ []
  ops_none ops h = filter_none (is_it name) (names ops) (any_names name ops ∙ h)

  ops_named : (ops : List CounterOp) → Once (is_for name) ops → filter (is_it name) (names ops) ≡ named_once (is_some (number_for name ops))
  ops_named [] h = refl
  ops_named (op ∷ ops) h = elim (cases_Bool (is_for name op)) [
    | inl e ↦ rw e (ap (λ all. op.name ∷ all) (ops_none ops (h.0 e)) ∙ ap (λ other. other ∷ []) (name_eq op.name name e))
    | inr e ↦ rw e (ops_named ops h.1)
  ]

  changed_named : (box : DocumentBox) → filter (is_it name) (changed_names box) ≡ named_once (is_changed_by box)
  changed_named box =
      let before = incremented_names box in
      let set = names (last_assigns box.assigns) in
      let there = is_some (increment_for name box false) in
      let known : list_any (is_it name) before ≡ there = any_passed (is_it name) before ∙ ap (list_any (λ other. true)) (incremented_named box) ∙ any_once there in
      filter-append (is_it name) before (filter (λ second. not (list_any (λ first. bytes_eq first second) before)) set)
      ∙ ap (λ all. all ++ filter (is_it name) (filter (λ second. not (list_any (λ first. bytes_eq first second) before)) set)) (incremented_named box)
      ∙ ap (λ all. named_once there ++ all) (others_named before set there known ∙ ap (λ all. cond there [] all) (ops_named (last_assigns box.assigns) (once_last (λ (op : CounterOp). op.name) name box.assigns)))
      ∙ both there (is_some (assigned_for name box))
    where
      both : (first second : Bool) → named_once first ++ cond first [] (named_once second) ≡ named_once (first || second)
      both true second = refl
      both false second = refl

  -- its event is what it makes of the value
  by_event : (box : DocumentBox) (reversed : Bool) (value : ℤ) → fold value_after value (map (λ (other : List ℕ). event_for name box reversed) (named_once (is_changed_by box))) ≡ changed_value name box reversed value
  by_event box reversed value =
      ap (λ there. fold value_after value (map (λ (other : List ℕ). event_for name box reversed) (named_once (there || is_some (assigned_for name box))))) (sym (either_adds name box reversed))
      ∙ by_parts (increment_for name box reversed) (assigned_for name box)
    where
      by_parts : (by number : Option ℤ) → fold value_after value (map (λ (other : List ℕ). record { by = unwrap_or by (pos 0); assigned = number }) (named_once (is_some by || is_some number))) ≡ unwrap_or number (option_map_or (λ add. count_sum value add) by value)
      by_parts None None = refl
      by_parts None (Some new) = refl
      by_parts (Some add) None = refl
      by_parts (Some add) (Some new) = refl

-- Lists of boxes.

filter_item : (test : DocumentBox → Bool) (x : DocumentBox) (xs : List DocumentBox) → IsItem x (filter test xs) → IsItem x xs × (test x ≡ true)
filter_item test x [] i = absurd i
filter_item test x (y ∷ ys) i = here (test y) refl (filter_item test x ys) i
  where
    here : (b : Bool) → test y ≡ b → (IsItem x (filter test ys) → IsItem x ys × (test x ≡ true)) → IsItem x (cond b (y ∷ filter test ys) (filter test ys)) → IsItem x (y ∷ ys) × (test x ≡ true)
    here true e rest (inl same) = (inl same, ap test (sym same) ∙ e)
    here true e rest (inr i) = let both = rest i in (inr both.0, both.1)
    here false e rest i = let both = rest i in (inr both.0, both.1)

last_item : (i first : DocumentBox) (xs : List DocumentBox) → last_or (Some first) xs ≡ Some i → IsItem i (first ∷ xs)
last_item i first [] e = let same : first ≡ i = cc in inl same
last_item i first (x ∷ xs) e = inr (last_item i x xs e)

last_of : (i : DocumentBox) (xs : List DocumentBox) → last_or None xs ≡ Some i → IsItem i xs
last_of i [] e = absurd (cc)
last_of i (x ∷ xs) e = last_item i x xs e

-- boxes of one name are one
same_item : (x y : DocumentBox) (xs : List DocumentBox) → AreApart xs → IsItem x xs → IsItem y xs → is_same_box x.id y.id ≡ true → x ≡ y
same_item x y [] apart i j e = absurd i
same_item x y (z ∷ zs) apart (inl i) (inl j) e = sym i ∙ j
same_item x y (z ∷ zs) apart (inl i) (inr j) e =
    absurd (let no : is_in y.id zs ≡ false = ap (λ box. is_in box zs) (sym (ap (λ (box : DocumentBox). box.id) i ∙ box_eq x.id y.id e)) ∙ apart.0 in let yes = item_in y zs j in cc)
same_item x y (z ∷ zs) apart (inr i) (inl j) e =
    absurd (let no : is_in x.id zs ≡ false = ap (λ box. is_in box zs) (sym (ap (λ (box : DocumentBox). box.id) j ∙ sym (box_eq x.id y.id e))) ∙ apart.0 in let yes = item_in x zs i in cc)
same_item x y (z ∷ zs) apart (inr i) (inr j) e = same_item x y zs apart.1 i j e

-- the boxes of a list from this one on
abbrev pub boxes_from : BoxId → List DocumentBox → List DocumentBox
boxes_from first [] = []
boxes_from first (box ∷ later) = cond (is_same_box box.id first) (box ∷ later) (boxes_from first later)

module _ (name : List ℕ) (whole : Forest DocumentBox) where
  -- the innermost counter of the name at a box is the one that this box created
  abbrev pub is_innermost : BoxId → BoxId → Bool
  is_innermost creator box = option_map_or (λ (innermost : DocumentBox). is_same_box innermost.id creator) (innermost_creator name whole box) false

  -- a box changes that one alone
  abbrev pub changed_at : BoxId → Counter → DocumentBox → Counter
  changed_at creator counter box = cond (is_innermost creator box.id) (changed name box counter) counter

  pub creator_item : HasDistinctBoxes whole → (x : DocumentBox) → IsItem x (creators name whole) → IsItem x (labels whole)
  creator_item distinct x i =
      each_item (λ (x : DocumentBox). IsItem x (labels whole)) (creators name whole) (subst (AllByRecursion (λ (x : DocumentBox). IsItem x (labels whole))) (sym (creators_are name whole distinct)) (made_items name whole [] None)) x i

  -- it is in the scope of its own counter
  pub creator_around : HasDistinctBoxes whole → (x : DocumentBox) → IsItem x (creators name whole) → is_in x.id (creators_around name whole x.id) ≡ true
  creator_around distinct x i =
      filter_in (λ (creator : DocumentBox). is_in_scope name whole creator.id x.id) x (creators name whole) i (scope_self name whole x.id distinct (item_stands whole x (creator_item distinct x i)))

  innermost_item : (box : BoxId) (i : DocumentBox) → innermost_creator name whole box ≡ Some i → IsItem i (creators name whole) × (is_in_scope name whole i.id box ≡ true)
  innermost_item box i e = filter_item (λ (creator : DocumentBox). is_in_scope name whole creator.id box) i (creators name whole) (last_of i (creators_around name whole box) e)

  -- A box that created a counter.
  module _ (distinct : HasDistinctBoxes whole) (x : DocumentBox) (item : IsItem x (creators name whole)) where
    -- it is the innermost at no box before
    quiet : (box : BoxId) → is_in x.id (boxes_up_to box (labels whole)) ≡ false → is_innermost x.id box ≡ false
    quiet box h = by_found (innermost_creator name whole box) refl
      where
        by_found : (o : Option DocumentBox) → innermost_creator name whole box ≡ o → option_map_or (λ (innermost : DocumentBox). is_same_box innermost.id x.id) o false ≡ false
        by_found None e = refl
        by_found (Some i) e = elim (cases_Bool (is_same_box i.id x.id)) [
          | inl t ↦ absurd (
              let scope : is_in_scope name whole x.id box ≡ true = subst (λ creator. is_in_scope name whole creator box ≡ true) (box_eq i.id x.id t) (innermost_item box i e).1 in
              let yes = scope_up_to name whole x.id box distinct scope in
              cc)
          | inr t ↦ t
        ]

    -- the box has an innermost counter
    own_innermost : innermost_creator name whole x.id ≡ None → false ≡ true
    own_innermost none = by_list (creators_around name whole x.id) none (creator_around distinct x item)
      where
        some_last : (xs : List DocumentBox) (first : DocumentBox) → last_or (Some first) xs ≡ None → false ≡ true
        some_last [] first e = absurd (cc)
        some_last (x ∷ xs) first e = some_last xs x e

        by_list : (xs : List DocumentBox) → last_or None xs ≡ None → is_in x.id xs ≡ true → false ≡ true
        by_list [] e h = h
        by_list (first ∷ xs) e h = some_last xs first e

    abbrev is_told_by : DocumentBox → Bool
    is_told_by box = is_same_box (change_at whole box name).creator x.id

    abbrev reversed : Bool
    reversed = (created name x).reversed

    -- what a box is told to change
    told_innermost : (box : DocumentBox) → (is_innermost x.id box.id ≡ is_told_by box) × (is_told_by box ≡ true → (change_at whole box name).event ≡ event_for name box reversed)
    told_innermost box = by_found (innermost_creator name whole box.id) refl
      where
        by_found : (o : Option DocumentBox) → innermost_creator name whole box.id ≡ o
            → (option_map_or (λ (innermost : DocumentBox). is_same_box innermost.id x.id) o false ≡ is_same_box (option_map_or (λ (creator : DocumentBox). creator.id) o box.id) x.id)
            × (is_same_box (option_map_or (λ (creator : DocumentBox). creator.id) o box.id) x.id ≡ true → event_for name box (option_map_or (λ creator. (created name creator).reversed) o false) ≡ event_for name box reversed)
        by_found None e = elim (cases_Bool (is_same_box box.id x.id)) [
          | inl t ↦ absurd (let bad = own_innermost (ap (innermost_creator name whole) (sym (box_eq box.id x.id t)) ∙ e) in cc)
          | inr t ↦ (sym t, λ h. absurd (cc))
        ]
        by_found (Some i) e = (refl, λ t. ap (λ creator. event_for name box (created name creator).reversed) (same_item i x (labels whole) (labels_apart whole distinct) (creator_item distinct i (innermost_item box.id i e).0) (creator_item distinct x item) t))

    events_named : (box : DocumentBox) (those : List (List ℕ)) → events_of (map (change_at whole box) those) x.id name ≡ cond (is_told_by box) (map (λ (other : List ℕ). (change_at whole box name).event) (filter (is_it name) those)) []
    events_named box [] = let none : List Event = [] in elim (is_told_by box) as (λ t. none ≡ cond t none none) [ true ↦ refl | false ↦ refl ]
    events_named box (other ∷ those) =
        let rest = events_named box those in
        let Named : List ℕ → Type 0 = λ first. events_of (map (change_at whole box) (first ∷ those)) x.id name ≡ cond (is_told_by box) (map (λ (other : List ℕ). (change_at whole box name).event) (filter (is_it name) (first ∷ those))) [] in
        elim (cases_Bool (is_it name other)) [
          | inl t ↦ subst Named (sym (name_eq other name t)) (elim (cases_Bool (is_told_by box)) [
            | inl k ↦ rw (k, name_self name) (ap (λ all. (change_at whole box name).event ∷ all) (rw k at rest))
            | inr k ↦ rw k (rw k at rest)
          ])
          | inr t ↦ elim (cases_Bool (is_same_box (change_at whole box other).creator x.id)) [ inl k ↦ rw (k, t) rest | inr k ↦ rw (k, t) rest ]
        ]

    -- one box
    at_box : (box : DocumentBox) (counter : Counter) → counter.reversed ≡ reversed → changed_at x.id counter box ≡ record counter { value = fold value_after counter.value (events_of (changes_at whole box) x.id name) }
    at_box box counter flag =
        let told = told_innermost box in
        ap (λ t. cond t (changed name box counter) counter) told.0
        ∙ by_told (is_told_by box) refl
        ∙ sym (ap (λ events. record counter { value = fold value_after counter.value events }) (events_named box (changed_names box)))
      where
        by_told : (t : Bool) → is_told_by box ≡ t
            → cond t (changed name box counter) counter ≡ record counter { value = fold value_after counter.value (cond t (map (λ (other : List ℕ). (change_at whole box name).event) (filter (is_it name) (changed_names box))) []) }
        by_told false e = refl
        by_told true e =
            sym (ap (λ event. record counter { value = fold value_after counter.value (map (λ (other : List ℕ). event) (filter (is_it name) (changed_names box))) }) ((told_innermost box).1 e ∙ ap (event_for name box) (sym flag))
            ∙ ap (λ those. record counter { value = fold value_after counter.value (map (λ (other : List ℕ). event_for name box counter.reversed) those) }) (changed_named name box)
            ∙ ap (λ value. record counter { value = value }) (by_event name box counter.reversed counter.value))

    events_both : (first later : List Change) → events_of (first ++ later) x.id name ≡ events_of first x.id name ++ events_of later x.id name
    events_both first later =
        let test : Change → Bool = λ change. is_same_box change.creator x.id && bytes_eq change.name name in
        ap (map (λ (change : Change). change.event)) (filter-append test first later)
        ∙ map-append (λ (change : Change). change.event) (filter test first) (filter test later)

    at_boxes : (those : List DocumentBox) (counter : Counter) → counter.reversed ≡ reversed → fold (changed_at x.id) counter those ≡ record counter { value = fold value_after counter.value (events_of (changes_by whole those) x.id name) }
    at_boxes [] counter flag = refl
    at_boxes (box ∷ those) counter flag =
        let now = fold value_after counter.value (events_of (changes_at whole box) x.id name) in
        ap (λ c. fold (changed_at x.id) c those) (at_box box counter flag)
        ∙ at_boxes those (record counter { value = now }) flag
        ∙ sym (ap (λ value. record counter { value = value })
        (ap (fold value_after counter.value) (events_both (changes_at whole box) (changes_by whole those))
        ∙ fold_append value_after (events_of (changes_at whole box) x.id name) (events_of (changes_by whole those) x.id name) counter.value))

    -- boxes before it change nothing
    not_yet : (y : DocumentBox) (ys : List DocumentBox) → is_same_box y.id x.id ≡ false → (before : List DocumentBox) → is_in x.id before ≡ false → is_in x.id (boxes_up_to y.id (before ++ y ∷ ys)) ≡ false
    not_yet y ys e [] out = rw (box_self y.id, e) refl
    not_yet y ys e (z ∷ before) out =
        let parts = or_parts (is_same_box z.id x.id) (is_in x.id before) out in
        elim (cases_Bool (is_same_box z.id y.id)) [ inl k ↦ rw (k, parts.0) refl | inr k ↦ rw (k, parts.0) (not_yet y ys e before parts.1) ]

    from_it : (rest before : List DocumentBox) (box : BoxId) (counter : Counter) → labels whole ≡ before ++ rest → is_in x.id before ≡ false → is_in x.id (boxes_up_to box rest) ≡ true → fold (changed_at x.id) counter (boxes_up_to box rest) ≡ fold (changed_at x.id) counter (boxes_up_to box (boxes_from x.id rest))
    from_it [] before box counter split out there = refl
    from_it (y ∷ ys) before box counter split out there = elim (cases_Bool (is_same_box y.id x.id)) [
      | inl e ↦ rw e refl
      | inr e ↦ elim (cases_Bool (is_same_box y.id box)) [
        | inl f ↦ absurd (let bad : (is_same_box y.id x.id || false) ≡ true = rw f at there in let no : (is_same_box y.id x.id || false) ≡ false = rw e refl in cc)
        | inr f ↦
            let still : is_innermost x.id y.id ≡ false = quiet y.id (ap (λ all. is_in x.id (boxes_up_to y.id all)) split ∙ not_yet y ys e before out) in
            let later : is_in x.id (before ++ y ∷ []) ≡ false = in_append x.id before (y ∷ []) ∙ rw (out, e) refl in
            let rest : is_in x.id (boxes_up_to box ys) ≡ true = rw e at (rw f at there) in
            rw (e, f) (ap (λ t. fold (changed_at x.id) (cond t (changed name y counter) counter) (boxes_up_to box ys)) still
            ∙ from_it ys (before ++ y ∷ []) box counter (split ∙ sym (append_assoc before (y ∷ []) ys)) later rest)
      ]
    ]

    pub counter_told : (box : BoxId) → is_in x.id (boxes_up_to box (labels whole)) ≡ true → fold (changed_at x.id) (created name x) (boxes_up_to box (boxes_from x.id (labels whole))) ≡ counter_at whole name box x
    counter_told box there = sym (from_it (labels whole) [] box (created name x) refl refl there) ∙ at_boxes (boxes_up_to box (labels whole)) (created name x) refl
