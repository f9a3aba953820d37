-- Sets of counters, and what properties make of them, under other keys.
use Rattle.std.proofs.Common.{◌≡◌, ◌∷◌, ◌++◌, ◌&&◌, ℕ, ℤ, pos, negsuc, List, [], Bool, true, false, cond, not, Option, Some, None, map, refl, sym, ap, ◌∙◌}
use Rattle.std.proofs.lemmas.List.{map-append}
use Rattle.std.specs.Prelude.{filter, find, is_some, option_map, remove, slice_get, unwrap_or}
use Rattle.std.specs.Option.{option_and_then, option_map_or}
use Rattle.std.specs.Str.{bytes_eq}
use Rattle.plain_types.specs.Counts.{count_sum}
use Rattle.plain_types.specs.declared.box_id.BoxId.{BoxId}
use Rattle.plain_types.specs.declared.counter.Counter.{Counter}
use Rattle.plain_types.specs.declared.style.CounterOp.{CounterOp}
use Rattle.plain_types.specs.declared.style.ResetOp.{ResetOp}
use Rattle.plain_types.specs.declared.style.Style.{Style}
use Rattle.counter_sets.specs.Sets.{assigned, change_at, incremented, inherited, innermost, innermost_place, instantiated, is_by_peer, is_missing_in, is_named, is_same, is_same_box, is_same_kind, replaced_place, valued_in, with_counter, with_innermost, with_value}
use Rattle.box_eval.specs.declared.change.Change.{Change}
use Rattle.box_eval.specs.declared.counting.Counted.{Counted}
use Rattle.box_eval.specs.declared.inputs.Start.{Start}
use Rattle.box_eval.specs.Properties.{after_resets, assigned_all, change_of, changed_names, changes_of, counted, counted_from, creator_of, first_value, has_implicit_step, implicit_step, increments_of, incremented_all, last_assigns, last_resets, list_item, merged, reset_by, start_in}
use Rattle.generated_texts.specs.Keyings.{rekeyed_box, rekeyed_change, rekeyed_counter, rekeyed_set}
use Rattle.generated_texts.proofs.ListLemmas.{any_map, change_at_map, filter_map, find_map, fold_map, get_map, last_place_map, map_map, map_or_map, map_same, remove_map}
use Rattle.generated_texts.proofs.Rekeyed.{AreApart}

pub some_map : {X Y : Type 0} (f : X → Y) (o : Option X) → is_some (option_map f o) ≡ is_some o
some_map f None = refl
some_map f (Some x) = refl

pub cond_map : {X Y : Type 0} (f : X → Y) (b : Bool) (one other : X) → cond b (f one) (f other) ≡ f (cond b one other)
cond_map f true one other = refl
cond_map f false one other = refl

module _ (rekey : ℕ → ℕ) where
  abbrev pub rekeyed_start : Start → Start
  rekeyed_start start = record start { creator = rekeyed_box rekey start.creator }

  abbrev pub rekeyed_counted : Counted → Counted
  rekeyed_counted counted = record { set = rekeyed_set rekey counted.set; changes = map (rekeyed_change rekey) counted.changes }

  -- What does not read keys.

  pub same_place : (set : List Counter) (name : List ℕ) → innermost_place (rekeyed_set rekey set) name ≡ innermost_place set name
  same_place set name = last_place_map (rekeyed_counter rekey) (is_named name) (is_named name) (λ _. refl) set

  pub innermost_rekeyed : (set : List Counter) (name : List ℕ) → innermost (rekeyed_set rekey set) name ≡ option_map (rekeyed_counter rekey) (innermost set name)
  innermost_rekeyed set name =
      ap (option_and_then (slice_get (rekeyed_set rekey set))) (same_place set name) ∙ get_map (rekeyed_counter rekey) set (innermost_place set name)

  -- what is read of the innermost counter, but not its creator
  pub same_innermost : {Z : Type 0} (read : Counter → Z) → ((counter : Counter) → read (rekeyed_counter rekey counter) ≡ read counter) → (set : List Counter) (name : List ℕ) (z : Z) → option_map_or read (innermost (rekeyed_set rekey set) name) z ≡ option_map_or read (innermost set name) z
  same_innermost read same set name z =
      ap (λ o. option_map_or read o z) (innermost_rekeyed set name) ∙ map_or_map (rekeyed_counter rekey) read read same (innermost set name) z

  pub same_has : (set : List Counter) (name : List ℕ) → is_some (innermost (rekeyed_set rekey set) name) ≡ is_some (innermost set name)
  same_has set name = ap (λ o. is_some o) (innermost_rekeyed set name) ∙ some_map (rekeyed_counter rekey) (innermost set name)

  changed_rekeyed : (change : ℤ → ℤ) (set : List Counter) (place : Option ℕ) → option_map_or (change_at (with_value change) (rekeyed_set rekey set)) place (rekeyed_set rekey set) ≡ rekeyed_set rekey (option_map_or (change_at (with_value change) set) place set)
  changed_rekeyed change set None = refl
  changed_rekeyed change set (Some n) = change_at_map (rekeyed_counter rekey) (with_value change) (with_value change) (λ _. refl) set n

  with_innermost_rekeyed : (change : ℤ → ℤ) (set : List Counter) (name : List ℕ) → with_innermost change (rekeyed_set rekey set) name ≡ rekeyed_set rekey (with_innermost change set name)
  with_innermost_rekeyed change set name =
      ap (λ place. option_map_or (change_at (with_value change) (rekeyed_set rekey set)) place (rekeyed_set rekey set)) (same_place set name)
      ∙ changed_rekeyed change set (innermost_place set name)

  same_step : (set : List Counter) → implicit_step (rekeyed_set rekey set) ≡ implicit_step set
  same_step set = same_innermost (λ (counter : Counter). cond counter.reversed (negsuc 0) (pos 1)) (λ _. refl) set list_item (pos 1)

  pub same_increments : (is_item : Bool) (increments : List CounterOp) (set : List Counter) → increments_of is_item increments (rekeyed_set rekey set) ≡ increments_of is_item increments set
  same_increments is_item increments set =
      ap (λ (step : ℤ). cond (has_implicit_step is_item increments) (merged increments ++ record { name = list_item; value = step } ∷ []) (merged increments)) (same_step set)

  creator_in : (counter : Option Counter) (otherwise : BoxId) → option_map_or (λ (c : Counter). c.creator) (option_map (rekeyed_counter rekey) counter) (rekeyed_box rekey otherwise) ≡ rekeyed_box rekey (option_map_or (λ (c : Counter). c.creator) counter otherwise)
  creator_in None otherwise = refl
  creator_in (Some counter) otherwise = refl

  creator_rekeyed : (set : List Counter) (name : List ℕ) (otherwise : BoxId) → creator_of (rekeyed_set rekey set) name (rekeyed_box rekey otherwise) ≡ rekeyed_box rekey (creator_of set name otherwise)
  creator_rekeyed set name otherwise =
      ap (λ counter. option_map_or (λ (c : Counter). c.creator) counter (rekeyed_box rekey otherwise)) (innermost_rekeyed set name) ∙ creator_in (innermost set name) otherwise

  changes_rekeyed : (box : BoxId) (increments assigns : List CounterOp) (set : List Counter) → changes_of (rekeyed_box rekey box) increments assigns (rekeyed_set rekey set) ≡ map (rekeyed_change rekey) (changes_of box increments assigns set)
  changes_rekeyed box increments assigns set =
      let change = change_of box increments assigns set in
      let change_too = change_of (rekeyed_box rekey box) increments assigns (rekeyed_set rekey set) in
      map_same change_too (λ name. rekeyed_change rekey (change name))
      (λ name. ap (λ (creator : BoxId). record { creator = creator; name = name; event = (change name).event }) (creator_rekeyed set name box)) (changed_names increments assigns)
      ∙ sym (map_map change (rekeyed_change rekey) (changed_names increments assigns))

  -- What tells keys apart.
  module _ (apart : AreApart rekey) where
    pub same_box : (one other : BoxId) → is_same_box (rekeyed_box rekey one) (rekeyed_box rekey other) ≡ is_same_box one other
    same_box one other = ap (λ b. b && is_same_kind one.kind other.kind) (apart one.key other.key)

    same_counter : (one other : Counter) → is_same (rekeyed_counter rekey one) (rekeyed_counter rekey other) ≡ is_same one other
    same_counter one other = ap (λ b. is_named one.name other && b) (same_box one.creator other.creator)

    pub same_peers : (peers : List BoxId) (counter : Counter) → is_by_peer (map (rekeyed_box rekey) peers) (rekeyed_counter rekey counter) ≡ is_by_peer peers counter
    same_peers peers counter = any_map (rekeyed_box rekey) (is_same_box counter.creator) (is_same_box (rekeyed_box rekey counter.creator)) (same_box counter.creator) peers

    same_missing : (set : List Counter) (counter : Counter) → is_missing_in (rekeyed_set rekey set) (rekeyed_counter rekey counter) ≡ is_missing_in set counter
    same_missing set counter = ap not (any_map (rekeyed_counter rekey) (is_same counter) (is_same (rekeyed_counter rekey counter)) (same_counter counter) set)

    valued_by : (counter : Counter) (same : Option Counter) → option_map_or (λ (c : Counter). record (rekeyed_counter rekey counter) { value = c.value }) (option_map (rekeyed_counter rekey) same) (rekeyed_counter rekey counter) ≡ rekeyed_counter rekey (option_map_or (λ (c : Counter). record counter { value = c.value }) same counter)
    valued_by counter None = refl
    valued_by counter (Some same) = refl

    valued_rekeyed : (set : List Counter) (counter : Counter) → valued_in (rekeyed_set rekey set) (rekeyed_counter rekey counter) ≡ rekeyed_counter rekey (valued_in set counter)
    valued_rekeyed set counter =
        ap (λ same. option_map_or (λ (c : Counter). record (rekeyed_counter rekey counter) { value = c.value }) same (rekeyed_counter rekey counter))
        (find_map (rekeyed_counter rekey) (is_same counter) (is_same (rekeyed_counter rekey counter)) (same_counter counter) set)
        ∙ valued_by counter (find (is_same counter) set)

    all_valued : (set others : List Counter) → map (valued_in (rekeyed_set rekey set)) (rekeyed_set rekey others) ≡ rekeyed_set rekey (map (valued_in set) others)
    all_valued set others =
        map_map (rekeyed_counter rekey) (valued_in (rekeyed_set rekey set)) others
        ∙ map_same (λ c. valued_in (rekeyed_set rekey set) (rekeyed_counter rekey c)) (λ c. rekeyed_counter rekey (valued_in set c)) (valued_rekeyed set) others
        ∙ sym (map_map (valued_in set) (rekeyed_counter rekey) others)

    pub or_none : (set : Option (List Counter)) → unwrap_or (option_map (rekeyed_set rekey) set) [] ≡ rekeyed_set rekey (unwrap_or set [])
    or_none None = refl
    or_none (Some set) = refl

    pub inherited_rekeyed : (parent : List Counter) (sibling preceding : Option (List Counter)) → inherited (rekeyed_set rekey parent) (option_map (rekeyed_set rekey) sibling) (option_map (rekeyed_set rekey) preceding) ≡ rekeyed_set rekey (inherited parent sibling preceding)
    inherited_rekeyed parent sibling preceding =
        let beside = unwrap_or sibling [] in
        let before = unwrap_or preceding [] in
        ap (λ set. map (valued_in set) (rekeyed_set rekey parent ++ filter (is_missing_in (rekeyed_set rekey parent)) (unwrap_or (option_map (rekeyed_set rekey) sibling) []))) (or_none preceding)
        ∙ ap (λ set. map (valued_in (rekeyed_set rekey before)) (rekeyed_set rekey parent ++ filter (is_missing_in (rekeyed_set rekey parent)) set)) (or_none sibling)
        ∙ ap (λ set. map (valued_in (rekeyed_set rekey before)) (rekeyed_set rekey parent ++ set)) (filter_map (rekeyed_counter rekey) (is_missing_in parent) (is_missing_in (rekeyed_set rekey parent)) (same_missing parent) beside)
        ∙ ap (map (valued_in (rekeyed_set rekey before))) (sym (map-append (rekeyed_counter rekey) parent (filter (is_missing_in parent) beside)))
        ∙ all_valued before (parent ++ filter (is_missing_in parent) beside)

    same_start : (starts : List Start) (creator : BoxId) (name : List ℕ) → start_in (map rekeyed_start starts) (rekeyed_box rekey creator) name ≡ start_in starts creator name
    same_start starts creator name =
        let test : Start → Bool = λ start. is_same_box start.creator creator && bytes_eq start.name name in
        let test_too : Start → Bool = λ start. is_same_box start.creator (rekeyed_box rekey creator) && bytes_eq start.name name in
        ap (λ o. option_map_or (λ (start : Start). start.value) o (pos 0))
        (find_map rekeyed_start test test_too (λ start. ap (λ b. b && bytes_eq start.name name) (same_box start.creator creator)) starts)
        ∙ map_or_map rekeyed_start (λ (start : Start). start.value) (λ (start : Start). start.value) (λ _. refl) (find test starts) (pos 0)

  -- A test of counters says of them what another says of those under the old keys.
  module _ (old new : Counter → Bool) (tied : (counter : Counter) → new (rekeyed_counter rekey counter) ≡ old counter) where
    same_replaced : (set : List Counter) (name : List ℕ) → replaced_place new (rekeyed_set rekey set) name ≡ replaced_place old set name
    same_replaced set name =
        ap (λ counter. cond (option_map_or new counter false) (innermost_place (rekeyed_set rekey set) name) None) (innermost_rekeyed set name)
        ∙ ap (λ b. cond b (innermost_place (rekeyed_set rekey set) name) None) (map_or_map (rekeyed_counter rekey) old new tied (innermost set name) false)
        ∙ ap (λ place. cond (option_map_or old (innermost set name) false) place None) (same_place set name)

    removed_rekeyed : (set : List Counter) (place : Option ℕ) → option_map_or (remove (rekeyed_set rekey set)) place (rekeyed_set rekey set) ≡ rekeyed_set rekey (option_map_or (remove set) place set)
    removed_rekeyed set None = refl
    removed_rekeyed set (Some n) = remove_map (rekeyed_counter rekey) set n

    pub instantiated_rekeyed : (set : List Counter) (counter : Counter) → instantiated new (rekeyed_set rekey set) (rekeyed_counter rekey counter) ≡ rekeyed_set rekey (instantiated old set counter)
    instantiated_rekeyed set counter =
        ap (λ place. option_map_or (remove (rekeyed_set rekey set)) place (rekeyed_set rekey set) ++ rekeyed_counter rekey counter ∷ []) (same_replaced set counter.name)
        ∙ ap (λ kept. kept ++ rekeyed_counter rekey counter ∷ []) (removed_rekeyed set (replaced_place old set counter.name))
        ∙ sym (map-append (rekeyed_counter rekey) (option_map_or (remove set) (replaced_place old set counter.name) set) (counter ∷ []))

    module _ (box : BoxId) where
      pub with_counter_rekeyed : (set : List Counter) (name : List ℕ) → with_counter new (rekeyed_box rekey box) (rekeyed_set rekey set) name ≡ rekeyed_set rekey (with_counter old box set name)
      with_counter_rekeyed set name =
          let made : Counter = record { name = name; creator = box; reversed = false; value = pos 0 } in
          ap (λ b. cond b (rekeyed_set rekey set) (instantiated new (rekeyed_set rekey set) (rekeyed_counter rekey made))) (same_has set name)
          ∙ ap (cond (is_some (innermost set name)) (rekeyed_set rekey set)) (instantiated_rekeyed set made)
          ∙ cond_map (rekeyed_set rekey) (is_some (innermost set name)) set (instantiated old set made)

      incremented_rekeyed : (set : List Counter) (op : CounterOp) → incremented new (rekeyed_box rekey box) (rekeyed_set rekey set) op.name op.value ≡ rekeyed_set rekey (incremented old box set op.name op.value)
      incremented_rekeyed set op =
          ap (λ counters. with_innermost (λ value. count_sum value op.value) counters op.name) (with_counter_rekeyed set op.name)
          ∙ with_innermost_rekeyed (λ value. count_sum value op.value) (with_counter old box set op.name) op.name

      assigned_rekeyed : (set : List Counter) (op : CounterOp) → assigned new (rekeyed_box rekey box) (rekeyed_set rekey set) op.name op.value ≡ rekeyed_set rekey (assigned old box set op.name op.value)
      assigned_rekeyed set op =
          ap (λ counters. with_innermost (λ _. op.value) counters op.name) (with_counter_rekeyed set op.name)
          ∙ with_innermost_rekeyed (λ _. op.value) (with_counter old box set op.name) op.name

      counted_from_rekeyed : (increments assigns : List CounterOp) (set : List Counter) (starts starts_too : List Start) → counted_from new (rekeyed_box rekey box) starts_too increments assigns (rekeyed_set rekey set) ≡ rekeyed_counted (counted_from old box starts increments assigns set)
      counted_from_rekeyed increments assigns set starts starts_too =
          let raised = incremented_all old box increments set in
          let counters = assigned_all old box assigns raised in
          let counters_is : assigned_all new (rekeyed_box rekey box) assigns (incremented_all new (rekeyed_box rekey box) increments (rekeyed_set rekey set)) ≡ rekeyed_set rekey counters =
          ap (assigned_all new (rekeyed_box rekey box) assigns)
          (fold_map (rekeyed_set rekey) (λ before (op : CounterOp). incremented old box before op.name op.value) (λ before (op : CounterOp). incremented new (rekeyed_box rekey box) before op.name op.value) incremented_rekeyed increments set)
          ∙ fold_map (rekeyed_set rekey) (λ before (op : CounterOp). assigned old box before op.name op.value) (λ before (op : CounterOp). assigned new (rekeyed_box rekey box) before op.name op.value) assigned_rekeyed assigns raised in
          let make : List Counter → List Change → Counted = λ set changes. record { set = set; changes = changes } in
          ap (λ set. make set (changes_of (rekeyed_box rekey box) increments assigns set)) counters_is
          ∙ ap (make (rekeyed_set rekey counters)) (changes_rekeyed box increments assigns counters)

      module _ (apart : AreApart rekey) (starts : List Start) where
        reset_rekeyed : (set : List Counter) (reset : ResetOp) → reset_by new (rekeyed_box rekey box) (map rekeyed_start starts) (rekeyed_set rekey set) reset ≡ rekeyed_set rekey (reset_by old box starts set reset)
        reset_rekeyed set reset =
            let make : ℤ → Counter = λ value. record { name = reset.name; creator = rekeyed_box rekey box; reversed = reset.reversed; value = value } in
            ap (λ (value : ℤ). instantiated new (rekeyed_set rekey set) (make (unwrap_or reset.value (cond reset.reversed value (pos 0))))) (same_start apart starts box reset.name)
            ∙ instantiated_rekeyed set (record { name = reset.name; creator = box; reversed = reset.reversed; value = first_value starts box reset })

        -- what a box makes of the counters that it inherits
        pub counted_rekeyed : (is_item : Bool) (style : Style) (set : List Counter) → counted new (rekeyed_box rekey box) (map rekeyed_start starts) is_item style (rekeyed_set rekey set) ≡ rekeyed_counted (counted old box starts is_item style set)
        counted_rekeyed is_item style set =
            let reset = after_resets old box starts style.resets set in
            let from = counted_from new (rekeyed_box rekey box) (map rekeyed_start starts) in
            ap (λ counters. from (increments_of is_item style.increments counters) (last_assigns style.assigns) counters)
            (fold_map (rekeyed_set rekey) (reset_by old box starts) (reset_by new (rekeyed_box rekey box) (map rekeyed_start starts)) reset_rekeyed (last_resets style.resets) set)
            ∙ ap (λ increments. from increments (last_assigns style.assigns) (rekeyed_set rekey reset)) (same_increments is_item style.increments reset)
            ∙ counted_from_rekeyed (increments_of is_item style.increments reset) (last_assigns style.assigns) reset starts (map rekeyed_start starts)
