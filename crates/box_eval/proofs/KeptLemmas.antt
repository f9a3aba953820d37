-- What holds of each counter of a set, whatever its value, and of those that a box creates, still holds once the
-- box has inherited, counted and used its counters.
use Rattle.std.proofs.Common.{◌≡◌, ◌++◌, ◌∷◌, ℕ, zero, suc, List, [], Bool, true, false, Option, Some, None, take, drop, map, remove, refl, inl, inr, ℤ, pos}
use Rattle.std.proofs.lemmas.Bool.{cases_Bool}
use Rattle.std.specs.Prelude.{filter, find, is_some, unwrap_or}
use Rattle.std.specs.List.{AllByRecursion}
use Rattle.std.specs.Option.{option_map_or}
use Rattle.plain_types.specs.Counts.{count_sum}
use Rattle.plain_types.specs.declared.attr.Attr.{Attr}
use Rattle.plain_types.specs.declared.box_id.BoxId.{BoxId}
use Rattle.plain_types.specs.declared.content.Item.{Item}
use Rattle.plain_types.specs.declared.content.Item.TheVariants as item
use Rattle.plain_types.specs.declared.counter.Counter.{Counter}
use Rattle.plain_types.specs.declared.counter_style.CounterStyle.{CounterStyle}
use Rattle.plain_types.specs.declared.style.CounterOp.{CounterOp}
use Rattle.plain_types.specs.declared.style.Quotes.{Quotes}
use Rattle.plain_types.specs.declared.style.ResetOp.{ResetOp}
use Rattle.plain_types.specs.declared.style.Style.{Style}
use Rattle.counter_sets.specs.Sets.{assigned, change_at, incremented, inherited, innermost, innermost_place, instantiated, is_missing_in, is_same, replaced_place, valued_in, with_counter, with_innermost, with_value}
use Rattle.content_eval.specs.Contents.{generated, set_behind}
use Rattle.box_eval.specs.declared.inputs.Start.{Start}
use Rattle.box_eval.specs.Properties.{after_resets, counted, first_value, incremented_all, increments_of, last_assigns, last_resets, reset_by}
use Rattle.box_eval.proofs.ListLemmas.{each_append, each_drop, each_take, either, fold_keeps}

module _ (Good : Counter → Type 0) (steady : (counter : Counter) (value : ℤ) → Good counter → Good (record counter { value = value })) where
  abbrev pub AllGood : List Counter → Type 0
  AllGood set = AllByRecursion Good set

  -- Inheriting.

  valued_good : (counter : Counter) (same : Option Counter) → Good counter → Good (option_map_or (λ (other : Counter). record counter { value = other.value }) same counter)
  valued_good counter None h = h
  valued_good counter (Some other) h = steady counter other.value h

  all_valued : (preceding set : List Counter) → AllGood set → AllGood (map (valued_in preceding) set)
  all_valued preceding [] h = tt
  all_valued preceding (counter ∷ set) h = (valued_good counter (find (is_same counter) preceding) h.0, all_valued preceding set h.1)

  all_new : (parent sibling : List Counter) → AllByRecursion (λ counter. is_missing_in parent counter ≡ true → Good counter) sibling → AllGood (filter (is_missing_in parent) sibling)
  all_new parent [] h = tt
  all_new parent (counter ∷ sibling) h = elim (cases_Bool (is_missing_in parent counter)) [
    | inl e ↦ rw e (h.0 e, all_new parent sibling h.1)
    | inr e ↦ rw e (all_new parent sibling h.1)
  ]

  pub inherited_good : (parent : List Counter) (sibling preceding : Option (List Counter)) → AllGood parent → AllByRecursion (λ counter. is_missing_in parent counter ≡ true → Good counter) (unwrap_or sibling []) → AllGood (inherited parent sibling preceding)
  inherited_good parent sibling preceding h new =
      all_valued (unwrap_or preceding []) (parent ++ filter (is_missing_in parent) (unwrap_or sibling []))
      (each_append Good parent (filter (is_missing_in parent) (unwrap_or sibling [])) h (all_new parent (unwrap_or sibling []) new))

  -- Changing values.

  change_good : (change : ℤ → ℤ) (set : List Counter) (place : ℕ) → AllGood set → AllGood (change_at (with_value change) set place)
  change_good change [] place h = tt
  change_good change (counter ∷ set) zero h = (steady counter (change counter.value) h.0, h.1)
  change_good change (counter ∷ set) (suc place) h = (h.0, change_good change set place h.1)

  maybe_good : (change : ℤ → ℤ) (set : List Counter) (place : Option ℕ) → AllGood set → AllGood (option_map_or (change_at (with_value change) set) place set)
  maybe_good change set None h = h
  maybe_good change set (Some place) h = change_good change set place h

  pub innermost_good : (change : ℤ → ℤ) (set : List Counter) (name : List ℕ) → AllGood set → AllGood (with_innermost change set name)
  innermost_good change set name h = maybe_good change set (innermost_place set name) h

  -- Instantiating.

  module _ (is_replaced : Counter → Bool) where
    kept_good : (set : List Counter) (place : Option ℕ) → AllGood set → AllGood (option_map_or (remove set) place set)
    kept_good set None h = h
    kept_good set (Some place) h = each_append Good (take place set) (drop (suc place) set) (each_take Good place set h) (each_drop Good (suc place) set h)

    pub instantiated_good : (set : List Counter) (counter : Counter) → AllGood set → Good counter → AllGood (instantiated is_replaced set counter)
    instantiated_good set counter h a =
        each_append Good (option_map_or (remove set) (replaced_place is_replaced set counter.name) set) (counter ∷ []) (kept_good set (replaced_place is_replaced set counter.name) h) (a, tt)

    -- A box whose own counters are good.
    module _ (box : BoxId) (mine : (counter : Counter) → counter.creator ≡ box → Good counter) where
      pub with_counter_good : (set : List Counter) (name : List ℕ) → AllGood set → AllGood (with_counter is_replaced box set name)
      with_counter_good set name h =
          let new : Counter = record { name = name; creator = box; reversed = false; value = pos 0 } in
          either AllGood (is_some (innermost set name)) set (instantiated is_replaced set new) h (instantiated_good set new h (mine new refl))

      pub incremented_good : (set : List Counter) (name : List ℕ) (by : ℤ) → AllGood set → AllGood (incremented is_replaced box set name by)
      incremented_good set name by h = innermost_good (λ value. count_sum value by) (with_counter is_replaced box set name) name (with_counter_good set name h)

      pub assigned_good : (set : List Counter) (name : List ℕ) (value : ℤ) → AllGood set → AllGood (assigned is_replaced box set name value)
      assigned_good set name value h = innermost_good (λ _. value) (with_counter is_replaced box set name) name (with_counter_good set name h)

      pub reset_good : (starts : List Start) (set : List Counter) (op : ResetOp) → AllGood set → AllGood (reset_by is_replaced box starts set op)
      reset_good starts set op h =
          let new : Counter = record { name = op.name; creator = box; reversed = op.reversed; value = first_value starts box op } in
          instantiated_good set new h (mine new refl)

      pub counted_good : (starts : List Start) (is_item : Bool) (style : Style) (set : List Counter) → AllGood set → AllGood (counted is_replaced box starts is_item style set).set
      counted_good starts is_item style set h =
          let reset = after_resets is_replaced box starts style.resets set in
          let ops = increments_of is_item style.increments reset in
          fold_keeps AllGood (λ before (op : CounterOp). assigned is_replaced box before op.name op.value) (λ before op good. assigned_good before op.name op.value good)
          (last_assigns style.assigns) (incremented_all is_replaced box ops reset)
          (fold_keeps AllGood (λ before (op : CounterOp). incremented is_replaced box before op.name op.value) (λ before op good. incremented_good before op.name op.value good) ops reset
          (fold_keeps AllGood (reset_by is_replaced box starts) (λ before op good. reset_good starts before op good) (last_resets style.resets) set h))

      pub behind_good : (set : List Counter) (first : Item) → AllGood set → AllGood (set_behind is_replaced box set first)
      behind_good set (item.Chars text) h = h
      behind_good set (item.Attr name) h = h
      behind_good set (item.Quote kind) h = h
      behind_good set (item.Counter name style) h = with_counter_good set name h
      behind_good set (item.Counters name between style) h = with_counter_good set name h
      behind_good set (item.TargetCounter url name style) h = h
      behind_good set (item.TargetCounters url name between style) h = h
      behind_good set (item.TargetText url part) h = h

      pub generated_good : (table : List CounterStyle) (items : List Item) (attrs : List Attr) (quotes : Quotes) (set : List Counter) (depth : ℕ) → AllGood set → AllGood (generated table items attrs quotes box is_replaced set depth).set
      generated_good table items attrs quotes set depth h = fold_keeps AllGood (set_behind is_replaced box) behind_good items set h
