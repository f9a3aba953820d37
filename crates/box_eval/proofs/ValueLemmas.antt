-- What does not depend on the values of counters: the counters of a set but for their values, and what boxes do
-- to counters.
use Rattle.std.proofs.Common.{◌≡◌, ◌++◌, ◌∷◌, ◌||◌, ℕ, zero, suc, List, [], Bool, true, false, cond, not, Option, Some, None, take, drop, map, remove, refl, sym, ap, ◌∙◌, inl, inr, ℤ, pos, negsuc}
use Rattle.std.proofs.lemmas.Bool.{cases_Bool}
use Rattle.std.proofs.lemmas.List.{map-append}
use Rattle.std.proofs.lemmas.Option.{slice_get-map}
use Rattle.std.specs.Prelude.{filter, find, is_some, slice_get, unwrap_or}
use Rattle.std.specs.List.{drop-map, fold, list_any, take-map}
use Rattle.std.specs.Option.{option_and_then, option_map, option_map_or}
use Rattle.plain_types.specs.Counts.{count_sum}
use Rattle.plain_types.specs.declared.attr.Attr.{Attr}
use Rattle.plain_types.specs.declared.box_id.BoxId.{BoxId}
use Rattle.plain_types.specs.declared.content.Item.{Item}
use Rattle.plain_types.specs.declared.content.Item.TheVariants as item
use Rattle.plain_types.specs.declared.counter.Counter.{Counter}
use Rattle.plain_types.specs.declared.counter_style.CounterStyle.{CounterStyle}
use Rattle.plain_types.specs.declared.style.CounterOp.{CounterOp}
use Rattle.plain_types.specs.declared.style.Quotes.{Quotes}
use Rattle.plain_types.specs.declared.style.ResetOp.{ResetOp}
use Rattle.plain_types.specs.declared.style.Style.{Style}
use Rattle.counter_sets.specs.Sets.{assigned, change_at, incremented, inherited, innermost, innermost_place, instantiated, is_missing_in, is_named, is_same, replaced_place, valued_in, with_counter, with_innermost, with_value}
use Rattle.content_eval.specs.Contents.{generated, set_behind}
use Rattle.box_eval.specs.declared.change.Change.{Change}
use Rattle.box_eval.specs.declared.counting.Counted.{Counted}
use Rattle.box_eval.specs.declared.inputs.Start.{Start}
use Rattle.box_eval.specs.Properties.{after_resets, assigned_all, change_of, changed_names, changes_of, counted, first_value, has_implicit_step, incremented_all, increments_of, last_assigns, last_resets, list_item, merged, reset_by}

-- A counter and a set but for their values.

abbrev pub valueless : Counter → Counter
valueless counter = record counter { value = pos 0 }

abbrev pub without_values : List Counter → List Counter
without_values set = map valueless set

-- the sets differ in values alone
abbrev pub Alike : List Counter → List Counter → Type 0
Alike set other = without_values set ≡ without_values other

-- Inheriting.

missing_valueless : (set : List Counter) (counter : Counter) → is_missing_in (without_values set) (valueless counter) ≡ is_missing_in set counter
missing_valueless set counter = ap not (any set)
  where
    any : (set : List Counter) → list_any (is_same (valueless counter)) (without_values set) ≡ list_any (is_same counter) set
    any [] = refl
    any (other ∷ set) = ap (λ rest. is_same counter other || rest) (any set)

values_inherited : (preceding set : List Counter) → without_values (map (valued_in preceding) set) ≡ without_values set
values_inherited preceding [] = refl
values_inherited preceding (counter ∷ set) = ap (λ first. first ∷ without_values (map (valued_in preceding) set)) (at (find (is_same counter) preceding)) ∙ ap (λ rest. valueless counter ∷ rest) (values_inherited preceding set)
  where
    at : (found : Option Counter) → valueless (option_map_or (λ (same : Counter). record counter { value = same.value }) found counter) ≡ valueless counter
    at None = refl
    at (Some same) = refl

new_valueless : (parent sibling : List Counter) → without_values (filter (is_missing_in parent) sibling) ≡ filter (is_missing_in (without_values parent)) (without_values sibling)
new_valueless parent [] = refl
new_valueless parent (counter ∷ sibling) = elim (cases_Bool (is_missing_in parent counter)) [
  | inl e ↦ rw (missing_valueless parent counter, e) (ap (λ rest. valueless counter ∷ rest) (new_valueless parent sibling))
  | inr e ↦ rw (missing_valueless parent counter, e) (new_valueless parent sibling)
]

inherited_valueless : (parent : List Counter) (sibling preceding : Option (List Counter)) → without_values (inherited parent sibling preceding) ≡ without_values parent ++ filter (is_missing_in (without_values parent)) (without_values (unwrap_or sibling []))
inherited_valueless parent sibling preceding =
    let new = filter (is_missing_in parent) (unwrap_or sibling []) in
    values_inherited (unwrap_or preceding []) (parent ++ new) ∙ map-append valueless parent new ∙ ap (λ rest. without_values parent ++ rest) (new_valueless parent (unwrap_or sibling []))

-- the preceding box's set lends values alone
pub inherited_alike : (parent other_parent : List Counter) (sibling other_sibling preceding other_preceding : Option (List Counter)) → Alike parent other_parent
    → Alike (unwrap_or sibling []) (unwrap_or other_sibling []) → Alike (inherited parent sibling preceding) (inherited other_parent other_sibling other_preceding)
inherited_alike parent other_parent sibling other_sibling preceding other_preceding parents siblings =
    let all : List Counter → List Counter → List Counter = λ above beside. above ++ filter (is_missing_in above) beside in
    inherited_valueless parent sibling preceding
    ∙ ap (λ above. all above (without_values (unwrap_or sibling []))) parents ∙ ap (all (without_values other_parent)) siblings
    ∙ sym (inherited_valueless other_parent other_sibling other_preceding)

-- The innermost counter of a name.

place_valueless : (name : List ℕ) (set : List Counter) → innermost_place (without_values set) name ≡ innermost_place set name
place_valueless name [] = refl
place_valueless name (counter ∷ set) = ap (λ later. option_map_or (λ place. Some (suc place)) later (cond (is_named name counter) (Some 0) None)) (place_valueless name set)

innermost_valueless : (set : List Counter) (name : List ℕ) → innermost (without_values set) name ≡ option_map valueless (innermost set name)
innermost_valueless set name = ap (option_and_then (slice_get (without_values set))) (place_valueless name set) ∙ at (innermost_place set name)
  where
    at : (place : Option ℕ) → option_and_then (slice_get (without_values set)) place ≡ option_map valueless (option_and_then (slice_get set) place)
    at None = refl
    at (Some place) = slice_get-map valueless set place

-- what is told of a counter without its value
told_alike : {A : Type 0} (tell : Counter → A) (none : A) → ((counter : Counter) → tell (valueless counter) ≡ tell counter) → (set other : List Counter) (name : List ℕ) → Alike set other
    → option_map_or tell (innermost set name) none ≡ option_map_or tell (innermost other name) none
told_alike {A} tell none same set other name alike =
    at (innermost set name) ∙ ap (λ found. option_map_or tell found none) (sym (innermost_valueless set name) ∙ ap (λ all. innermost all name) alike ∙ innermost_valueless other name) ∙ sym (at (innermost other name))
  where
    at : (found : Option Counter) → option_map_or tell found none ≡ option_map_or tell (option_map valueless found) none
    at None = refl
    at (Some counter) = sym (same counter)

-- Changing the value of the innermost counter.

with_innermost_alike : (change : ℤ → ℤ) (set : List Counter) (name : List ℕ) → Alike (with_innermost change set name) set
with_innermost_alike change set name = maybe (innermost_place set name)
  where
    at : (set : List Counter) (place : ℕ) → Alike (change_at (with_value change) set place) set
    at [] place = refl
    at (counter ∷ set) zero = refl
    at (counter ∷ set) (suc place) = ap (λ rest. valueless counter ∷ rest) (at set place)

    maybe : (place : Option ℕ) → Alike (option_map_or (change_at (with_value change) set) place set) set
    maybe None = refl
    maybe (Some place) = at set place

alike_if : (b : Bool) (set other more others : List Counter) → Alike set other → Alike more others → Alike (cond b set more) (cond b other others)
alike_if true set other more others same rest = same
alike_if false set other more others same rest = rest

pub fold_alike : {A : Type 0} (step others : List Counter → A → List Counter) → ((set other : List Counter) (item : A) → Alike set other → Alike (step set item) (others other item))
    → (items : List A) (set other : List Counter) → Alike set other → Alike (fold step set items) (fold others other items)
fold_alike step others each [] set other alike = alike
fold_alike step others each (item ∷ items) set other alike = fold_alike step others each items (step set item) (others other item) (each set other item alike)

-- the counters after a box's properties differ in values alone, and the box did the same to counters
pub record AreCountedAlike (first second : Counted) : Type 0 where
  pub set : Alike first.set second.set
  pub changes : first.changes ≡ second.changes

-- Where a new counter takes the place of another, whatever the value of that is.
module _ (is_replaced : Counter → Bool) (blind : (counter : Counter) → is_replaced (valueless counter) ≡ is_replaced counter) where
  replaced_valueless : (set : List Counter) (name : List ℕ) → replaced_place is_replaced (without_values set) name ≡ replaced_place is_replaced set name
  replaced_valueless set name =
      ap (λ found. cond (option_map_or is_replaced found false) (innermost_place (without_values set) name) None) (innermost_valueless set name)
      ∙ ap (λ place. cond (option_map_or is_replaced (option_map valueless (innermost set name)) false) place None) (place_valueless name set)
      ∙ ap (λ b. cond b (innermost_place set name) None) (at (innermost set name))
    where
      at : (found : Option Counter) → option_map_or is_replaced (option_map valueless found) false ≡ option_map_or is_replaced found false
      at None = refl
      at (Some counter) = blind counter

  instantiated_valueless : (set : List Counter) (counter : Counter) → without_values (instantiated is_replaced set counter) ≡ instantiated is_replaced (without_values set) (valueless counter)
  instantiated_valueless set counter =
      map-append valueless (kept set (replaced_place is_replaced set counter.name)) (counter ∷ [])
      ∙ ap (λ rest. rest ++ valueless counter ∷ []) (without (replaced_place is_replaced set counter.name))
      ∙ ap (λ place. kept (without_values set) place ++ valueless counter ∷ []) (sym (replaced_valueless set counter.name))
    where
      kept : List Counter → Option ℕ → List Counter
      kept all place = option_map_or (remove all) place all

      without : (place : Option ℕ) → without_values (kept set place) ≡ kept (without_values set) place
      without None = refl
      without (Some place) =
          map-append valueless (take place set) (drop (suc place) set)
          ∙ ap (λ front. front ++ without_values (drop (suc place) set)) (sym (take-map valueless place set))
          ∙ ap (λ rest. take place (without_values set) ++ rest) (sym (drop-map valueless (suc place) set))

  pub instantiated_alike : (set other : List Counter) (counter counter_too : Counter) → Alike set other → valueless counter ≡ valueless counter_too → Alike (instantiated is_replaced set counter) (instantiated is_replaced other counter_too)
  instantiated_alike set other counter counter_too alike same =
      instantiated_valueless set counter
      ∙ ap (λ all. instantiated is_replaced all (valueless counter)) alike ∙ ap (instantiated is_replaced (without_values other)) same
      ∙ sym (instantiated_valueless other counter_too)

  module _ (box : BoxId) where
    pub with_counter_alike : (set other : List Counter) (name : List ℕ) → Alike set other → Alike (with_counter is_replaced box set name) (with_counter is_replaced box other name)
    with_counter_alike set other name alike =
        let new : Counter = record { name = name; creator = box; reversed = false; value = pos 0 } in
        let there = told_alike (λ counter. true) false (λ counter. refl) set other name alike in
        ap (λ b. without_values (cond b set (instantiated is_replaced set new))) (has (innermost set name) ∙ there ∙ sym (has (innermost other name)))
        ∙ alike_if (is_some (innermost other name)) set other (instantiated is_replaced set new) (instantiated is_replaced other new) alike (instantiated_alike set other new new alike refl)
      where
        has : (found : Option Counter) → is_some found ≡ option_map_or (λ counter. true) found false
        has None = refl
        has (Some counter) = refl

    incremented_alike : (set other : List Counter) (op : CounterOp) → Alike set other → Alike (incremented is_replaced box set op.name op.value) (incremented is_replaced box other op.name op.value)
    incremented_alike set other op alike =
        let change : ℤ → ℤ = λ value. count_sum value op.value in
        with_innermost_alike change (with_counter is_replaced box set op.name) op.name
        ∙ with_counter_alike set other op.name alike
        ∙ sym (with_innermost_alike change (with_counter is_replaced box other op.name) op.name)

    assigned_alike : (set other : List Counter) (op : CounterOp) → Alike set other → Alike (assigned is_replaced box set op.name op.value) (assigned is_replaced box other op.name op.value)
    assigned_alike set other op alike =
        let change : ℤ → ℤ = λ _. op.value in
        with_innermost_alike change (with_counter is_replaced box set op.name) op.name
        ∙ with_counter_alike set other op.name alike
        ∙ sym (with_innermost_alike change (with_counter is_replaced box other op.name) op.name)

    -- a start is a value
    resets_alike : (starts others : List Start) (resets : List ResetOp) (set other : List Counter) → Alike set other → Alike (after_resets is_replaced box starts resets set) (after_resets is_replaced box others resets other)
    resets_alike starts others resets =
        fold_alike (reset_by is_replaced box starts) (reset_by is_replaced box others)
        (λ set other reset alike.
        instantiated_alike set other (record { name = reset.name; creator = box; reversed = reset.reversed; value = first_value starts box reset })
        (record { name = reset.name; creator = box; reversed = reset.reversed; value = first_value others box reset }) alike refl)
        (last_resets resets)

    increments_same : (is_item : Bool) (increments : List CounterOp) (set other : List Counter) → Alike set other → increments_of is_item increments set ≡ increments_of is_item increments other
    increments_same is_item increments set other alike =
        let all : ℤ → List CounterOp = λ step. cond (has_implicit_step is_item increments) (merged increments ++ record { name = list_item; value = step } ∷ []) (merged increments) in
        ap all (told_alike (λ counter. cond counter.reversed (negsuc 0) (pos 1)) (pos 1) (λ counter. refl) set other list_item alike)

    changes_same : (increments assigns : List CounterOp) (set other : List Counter) → Alike set other → changes_of box increments assigns set ≡ changes_of box increments assigns other
    changes_same increments assigns set other alike = each (changed_names increments assigns)
      where
        each : (names : List (List ℕ)) → map (change_of box increments assigns set) names ≡ map (change_of box increments assigns other) names
        each [] = refl
        each (name ∷ names) =
            let make : BoxId → Change = λ creator. record { creator = creator; name = name; event = (change_of box increments assigns set name).event } in
            ap (λ creator. make creator ∷ map (change_of box increments assigns set) names) (told_alike (λ counter. counter.creator) box (λ counter. refl) set other name alike)
            ∙ ap (λ rest. change_of box increments assigns other name ∷ rest) (each names)

    pub counted_alike : (starts others : List Start) (is_item : Bool) (style : Style) (set other : List Counter) → Alike set other
        → AreCountedAlike (counted is_replaced box starts is_item style set) (counted is_replaced box others is_item style other)
    counted_alike starts others is_item style set other alike =
        let reset = after_resets is_replaced box starts style.resets set in
        let reset_too = after_resets is_replaced box others style.resets other in
        let resets = resets_alike starts others style.resets set other alike in
        let increments = increments_of is_item style.increments reset in
        let increments_too = increments_of is_item style.increments reset_too in
        let same = increments_same is_item style.increments reset reset_too resets in
        let assigns = last_assigns style.assigns in
        let raised = fold_alike (λ before (op : CounterOp). incremented is_replaced box before op.name op.value) (λ before (op : CounterOp). incremented is_replaced box before op.name op.value) incremented_alike increments reset reset_too resets in
        let set_alike = fold_alike (λ before (op : CounterOp). assigned is_replaced box before op.name op.value) (λ before (op : CounterOp). assigned is_replaced box before op.name op.value) assigned_alike assigns
        (incremented_all is_replaced box increments reset) (incremented_all is_replaced box increments reset_too) raised in
        let end : List CounterOp → List Counter = λ ops. assigned_all is_replaced box assigns (incremented_all is_replaced box ops reset_too) in
        record {
          set = set_alike ∙ ap (λ ops. without_values (end ops)) same;
          changes = changes_same increments assigns (assigned_all is_replaced box assigns (incremented_all is_replaced box increments reset)) (end increments) set_alike
              ∙ ap (λ ops. changes_of box ops assigns (end ops)) same;
        }

    -- content creates counters whatever the values of the others are
    pub generated_alike : (table : List CounterStyle) (items : List Item) (attrs : List Attr) (quotes : Quotes) (set other : List Counter) (depth depth_too : ℕ) → Alike set other
        → Alike (generated table items attrs quotes box is_replaced set depth).set (generated table items attrs quotes box is_replaced other depth_too).set
    generated_alike table items attrs quotes set other depth depth_too = fold_alike (set_behind is_replaced box) (set_behind is_replaced box) behind items set other
      where
        behind : (set other : List Counter) (first : Item) → Alike set other → Alike (set_behind is_replaced box set first) (set_behind is_replaced box other first)
        behind set other (item.Chars text) alike = alike
        behind set other (item.Attr name) alike = alike
        behind set other (item.Quote kind) alike = alike
        behind set other (item.Counter name style) alike = with_counter_alike set other name alike
        behind set other (item.Counters name between style) alike = with_counter_alike set other name alike
        behind set other (item.TargetCounter url name style) alike = alike
        behind set other (item.TargetCounters url name between style) alike = alike
        behind set other (item.TargetText url part) alike = alike
