-- What a box makes of the counters of one name that it inherits.
use Rattle.std.proofs.Common.{◌≡◌, ◌++◌, ◌∷◌, ◌||◌, ℕ, ℤ, pos, negsuc, List, [], Bool, true, false, cond, Option, Some, None, refl, sym, ap, ◌∙◌, inl, inr}
use Rattle.std.proofs.lemmas.Bool.{cases_Bool}
use Rattle.std.specs.Prelude.{find, is_some, unwrap_or}
use Rattle.std.specs.List.{fold, last_or, list_any}
use Rattle.std.specs.Option.{option_map, option_map_or}
use Rattle.std.specs.Str.{bytes_eq}
use Rattle.plain_types.specs.Counts.{count_sum}
use Rattle.plain_types.specs.declared.content.Item.{Item}
use Rattle.plain_types.specs.declared.content.Item.TheVariants as item
use Rattle.plain_types.specs.declared.counter.Counter.{Counter}
use Rattle.plain_types.specs.declared.style.CounterOp.{CounterOp}
use Rattle.plain_types.specs.declared.style.ResetOp.{ResetOp}
use Rattle.counter_sets.specs.Sets.{assigned, incremented, is_missing_in, with_counter, with_innermost, with_value}
use Rattle.content_eval.specs.Contents.{set_behind}
use Rattle.box_eval.specs.Properties.{after_resets, assigned_all, first_value, incremented_all, increments_of, is_for, last_assigns, last_resets, reset_by}
use Rattle.counter_scopes.specs.Boxes.{DocumentBox}
use Rattle.counter_scopes.specs.Counting.{assigned_for, increment_for, mentions, reset_for, steps, uses}
use Rattle.counter_scopes.proofs.NameLemmas.{at_last, dropped, name_eq, only, only_changed, only_instantiated, only_with_counter, or_new, other_changed, other_instantiated, other_with_counter}
use Rattle.counter_scopes.proofs.OpLemmas.{Once, fold_once, increments_found, increments_once, is_last_reversed, once_last}

-- The counters of a box whose parent box has these, where it inherits those.

abbrev pub reset_set : List Counter → DocumentBox → List Counter → List Counter
reset_set parent box set = after_resets (is_missing_in parent) box.id box.starts box.resets set

abbrev pub counted_set : List Counter → DocumentBox → List Counter → List Counter
counted_set parent box set =
    let is_replaced = is_missing_in parent in
    let reset = reset_set parent box set in
    assigned_all is_replaced box.id (last_assigns box.assigns) (incremented_all is_replaced box.id (increments_of box.is_item box.increments reset) reset)

abbrev pub box_set : List Counter → DocumentBox → List Counter → List Counter
box_set parent box set = fold (set_behind (is_missing_in parent) box.id) (counted_set parent box set) box.items

-- Changes of the last counter, one after the other.

at_last_none : (cs : List Counter) → at_last (λ c. c) cs ≡ cs
at_last_none [] = refl
at_last_none (c ∷ []) = refl
at_last_none (c ∷ d ∷ cs) = ap (λ all. c ∷ all) (at_last_none (d ∷ cs))

deeper : (g f : Counter → Counter) (c d : Counter) (cs : List Counter) → at_last g (c ∷ at_last f (d ∷ cs)) ≡ c ∷ at_last g (at_last f (d ∷ cs))
deeper g f c d [] = refl
deeper g f c d (e ∷ cs) = refl

at_last_both : (g f : Counter → Counter) (cs : List Counter) → at_last g (at_last f cs) ≡ at_last (λ c. g (f c)) cs
at_last_both g f [] = refl
at_last_both g f (c ∷ []) = refl
at_last_both g f (c ∷ d ∷ cs) = deeper g f c d cs ∙ ap (λ all. c ∷ all) (at_last_both g f (d ∷ cs))

at_last_same : (g f : Counter → Counter) (cs : List Counter) → ((c : Counter) → last_or None cs ≡ Some c → g c ≡ f c) → at_last g cs ≡ at_last f cs
at_last_same g f [] i = refl
at_last_same g f (c ∷ []) i = ap (λ d. d ∷ []) (i c refl)
at_last_same g f (c ∷ d ∷ cs) i = ap (λ all. c ∷ all) (at_last_same g f (d ∷ cs) i)

-- a counter that is there is not created again
new_again : (new : Counter) (b : Bool) (f : Counter → Counter) (cs : List Counter) → cond b (or_new new (at_last f (or_new new cs))) (at_last f (or_new new cs)) ≡ at_last f (or_new new cs)
new_again new false f cs = refl
new_again new true f [] = refl
new_again new true f (c ∷ []) = refl
new_again new true f (c ∷ d ∷ cs) = refl

module _ (name : List ℕ) (box : DocumentBox) where
  -- what it makes of the value of its counter of the name
  abbrev pub changed_value : Bool → ℤ → ℤ
  changed_value reversed value = unwrap_or (assigned_for name box) (option_map_or (λ by. count_sum value by) (increment_for name box reversed) value)

  abbrev pub changed : Counter → Counter
  changed counter = record counter { value = changed_value counter.reversed counter.value }

  -- the counter that it creates without a reset, and by one
  abbrev pub zero_counter : Counter
  zero_counter = record { name = name; creator = box.id; reversed = false; value = pos 0 }

  abbrev pub reset_counter : ResetOp → Counter
  reset_counter op = record { name = name; creator = box.id; reversed = op.reversed; value = first_value box.starts box.id op }

  abbrev pub with_new : Bool → List Counter → List Counter
  with_new names set = cond names (or_new zero_counter set) set

  -- all its changes at once
  combined : (by number : Option ℤ) (used : Bool) (set : List Counter)
      → (let summed = option_map_or (λ add. at_last (with_value (λ value. count_sum value add)) (or_new zero_counter set)) by set in
      let taken = option_map_or (λ new. at_last (with_value (λ _. new)) (or_new zero_counter summed)) number summed in
      with_new used taken)
      ≡ at_last (with_value (λ value. unwrap_or number (option_map_or (λ add. count_sum value add) by value))) (with_new (is_some by || (is_some number || used)) set)
  combined None None false set = sym (at_last_none set)
  combined None None true set = sym (at_last_none (or_new zero_counter set))
  combined None (Some new) used set = new_again zero_counter used (with_value (λ _. new)) set
  combined (Some add) None used set = new_again zero_counter used (with_value (λ value. count_sum value add)) set
  combined (Some add) (Some new) used set =
      let f = with_value (λ value. count_sum value add) in
      let g = with_value (λ _. new) in
      ap (λ all. with_new used (at_last g all)) (new_again zero_counter true f set)
      ∙ ap (with_new used) (at_last_both g f (or_new zero_counter set))
      ∙ new_again zero_counter used (λ c. g (f c)) set

  -- Step by step.

  module _ (is_replaced : Counter → Bool) where
    pub resets_are : (set : List Counter) → only name (after_resets is_replaced box.id box.starts box.resets set) ≡ option_map_or (λ op. dropped is_replaced (only name set) ++ reset_counter op ∷ []) (reset_for name box) (only name set)
    resets_are set =
        fold_once (λ (op : ResetOp). op.name) name (reset_by is_replaced box.id box.starts) (λ op all. dropped is_replaced all ++ reset_counter op ∷ [])
        (λ before op e. other_instantiated name op.name e is_replaced before (record { name = op.name; creator = box.id; reversed = op.reversed; value = first_value box.starts box.id op }) refl)
        (λ before op e.
        let is = name_eq op.name name e in
        let new : List ℕ → Counter = λ other. record { name = other; creator = box.id; reversed = op.reversed; value = first_value box.starts box.id op } in
        only_instantiated name is_replaced before (new op.name) is ∙ ap (λ other. dropped is_replaced (only name before) ++ new other ∷ []) is)
        (last_resets box.resets) set (once_last (λ (op : ResetOp). op.name) name box.resets)

    increments_are : (ops : List CounterOp) (set : List Counter) (by : Option ℤ) → Once (is_for name) ops → find (is_for name) ops ≡ option_map (λ add. record { name = name; value = add }) by
        → only name (incremented_all is_replaced box.id ops set) ≡ option_map_or (λ add. at_last (with_value (λ value. count_sum value add)) (or_new zero_counter (only name set))) by (only name set)
    increments_are ops set by once found =
        let act : CounterOp → List Counter → List Counter = λ op all. at_last (with_value (λ value. count_sum value op.value)) (or_new zero_counter all) in
        fold_once (λ (op : CounterOp). op.name) name (λ before (op : CounterOp). incremented is_replaced box.id before op.name op.value) act
        (λ before op e. other_changed name op.name e (λ value. count_sum value op.value) (with_counter is_replaced box.id before op.name) ∙ other_with_counter name op.name e is_replaced box.id before)
        (λ before op e.
        ap (λ other. only name (with_innermost (λ value. count_sum value op.value) (with_counter is_replaced box.id before other) other)) (name_eq op.name name e)
        ∙ only_changed name (λ value. count_sum value op.value) (with_counter is_replaced box.id before name)
        ∙ ap (at_last (with_value (λ value. count_sum value op.value))) (only_with_counter name is_replaced box.id before))
        ops set once
        ∙ ap (λ entry. option_map_or (λ op. act op (only name set)) entry (only name set)) found
        ∙ by_option by
      where
        by_option : (by : Option ℤ) → option_map_or (λ (op : CounterOp). at_last (with_value (λ value. count_sum value op.value)) (or_new zero_counter (only name set))) (option_map (λ add. record { name = name; value = add }) by) (only name set) ≡ option_map_or (λ add. at_last (with_value (λ value. count_sum value add)) (or_new zero_counter (only name set))) by (only name set)
        by_option None = refl
        by_option (Some add) = refl

    assigns_are : (set : List Counter) → only name (assigned_all is_replaced box.id (last_assigns box.assigns) set) ≡ option_map_or (λ new. at_last (with_value (λ _. new)) (or_new zero_counter (only name set))) (assigned_for name box) (only name set)
    assigns_are set =
        fold_once (λ (op : CounterOp). op.name) name (λ before (op : CounterOp). assigned is_replaced box.id before op.name op.value) (λ op all. at_last (with_value (λ _. op.value)) (or_new zero_counter all))
        (λ before op e. other_changed name op.name e (λ _. op.value) (with_counter is_replaced box.id before op.name) ∙ other_with_counter name op.name e is_replaced box.id before)
        (λ before op e.
        ap (λ other. only name (with_innermost (λ _. op.value) (with_counter is_replaced box.id before other) other)) (name_eq op.name name e)
        ∙ only_changed name (λ _. op.value) (with_counter is_replaced box.id before name)
        ∙ ap (at_last (with_value (λ _. op.value))) (only_with_counter name is_replaced box.id before))
        (last_assigns box.assigns) set (once_last (λ (op : CounterOp). op.name) name box.assigns)
        ∙ by_option (find (is_for name) (last_assigns box.assigns))
      where
        by_option : (found : Option CounterOp) → option_map_or (λ (op : CounterOp). at_last (with_value (λ _. op.value)) (or_new zero_counter (only name set))) found (only name set) ≡ option_map_or (λ new. at_last (with_value (λ _. new)) (or_new zero_counter (only name set))) (option_map (λ (op : CounterOp). op.value) found) (only name set)
        by_option None = refl
        by_option (Some op) = refl

    used_counter : (set : List Counter) (other : List ℕ) → only name (with_counter is_replaced box.id set other) ≡ with_new (bytes_eq other name) (only name set)
    used_counter set other = elim (cases_Bool (bytes_eq other name)) [
      | inl e ↦ rw e (ap (λ named. only name (with_counter is_replaced box.id set named)) (name_eq other name e) ∙ only_with_counter name is_replaced box.id set)
      | inr e ↦ rw e (other_with_counter name other e is_replaced box.id set)
    ]

    behind_is : (set : List Counter) (first : Item) → only name (set_behind is_replaced box.id set first) ≡ with_new (uses name first) (only name set)
    behind_is set (item.Chars text) = refl
    behind_is set (item.Attr attr) = refl
    behind_is set (item.Quote kind) = refl
    behind_is set (item.Counter other style) = used_counter set other
    behind_is set (item.Counters other between style) = used_counter set other
    behind_is set (item.TargetCounter url other style) = refl
    behind_is set (item.TargetCounters url other between style) = refl
    behind_is set (item.TargetText url part) = refl

    new_twice : (first later : Bool) (set : List Counter) → with_new later (with_new first set) ≡ with_new (first || later) set
    new_twice true true [] = refl
    new_twice true true (c ∷ set) = refl
    new_twice true false set = refl
    new_twice false later set = refl

    pub items_are : (items : List Item) (set : List Counter) → only name (fold (set_behind is_replaced box.id) set items) ≡ with_new (list_any (uses name) items) (only name set)
    items_are [] set = refl
    items_are (first ∷ items) set =
        items_are items (set_behind is_replaced box.id set first)
        ∙ ap (with_new (list_any (uses name) items)) (behind_is set first)
        ∙ new_twice (uses name first) (list_any (uses name) items) (only name set)

  -- All together.

  -- the counters of the name after the box's resets
  abbrev pub reset_named : (Counter → Bool) → List Counter → List Counter
  reset_named is_replaced named = option_map_or (λ op. dropped is_replaced named ++ reset_counter op ∷ []) (reset_for name box) named

  pub either_adds : (reversed : Bool) → is_some (increment_for name box reversed) ≡ is_some (increment_for name box false)
  either_adds true = elim (cases_Bool (list_any (is_for name) box.increments)) [ inl e ↦ rw e refl | inr e ↦ rw e (by (steps name box)) ]
    where
      by : (b : Bool) → is_some (cond b (Some (negsuc 0)) None) ≡ is_some (cond b (Some (pos 1)) None)
      by true = refl
      by false = refl
  either_adds false = refl

  last_new : (names : Bool) (set : List Counter) (c : Counter) → last_or None (with_new names set) ≡ Some c → is_last_reversed set ≡ c.reversed
  last_new true [] c h = let same : zero_counter ≡ c = cc in ap (λ (d : Counter). d.reversed) same
  last_new true (d ∷ set) c h = ap (λ found. option_map_or (λ (counter : Counter). counter.reversed) found false) h
  last_new false set c h = ap (λ found. option_map_or (λ (counter : Counter). counter.reversed) found false) h

  pub box_is : (parent set : List Counter) → only name (box_set parent box set) ≡ at_last changed (with_new (mentions name box) (reset_named (is_missing_in parent) (only name set)))
  box_is parent set =
      let is_replaced = is_missing_in parent in
      let after = reset_set parent box set in
      let summed = incremented_all is_replaced box.id (increments_of box.is_item box.increments after) after in
      let start = only name after in
      let by = increment_for name box (is_last_reversed start) in
      let used = list_any (uses name) box.items in
      items_are is_replaced box.items (counted_set parent box set)
      ∙ ap (with_new used) (assigns_are is_replaced summed)
      ∙ ap (λ all. with_new used (option_map_or (λ new. at_last (with_value (λ _. new)) (or_new zero_counter all)) (assigned_for name box) all))
      (increments_are is_replaced (increments_of box.is_item box.increments after) after by
      (increments_once name box.is_item box.increments after) (increments_found name box.is_item box.increments after))
      ∙ combined by (assigned_for name box) used start
      ∙ ap (λ b. at_last (with_value (λ value. unwrap_or (assigned_for name box) (option_map_or (λ add. count_sum value add) by value))) (with_new (b || (is_some (assigned_for name box) || used)) start)) (either_adds (is_last_reversed start))
      ∙ at_last_same (with_value (λ value. unwrap_or (assigned_for name box) (option_map_or (λ add. count_sum value add) by value))) changed (with_new (mentions name box) start)
      (λ c last. ap (λ reversed. with_value (λ value. unwrap_or (assigned_for name box) (option_map_or (λ add. count_sum value add) (increment_for name box reversed) value)) c) (last_new (mentions name box) start c last))
      ∙ ap (λ all. at_last changed (with_new (mentions name box) all)) (resets_are is_replaced set)
