-- A counter that an edit leaves alone has the events that it had. Throughout, i is what a level is handed, j what it was
-- handed, n a node, c what is under it, r what is after it, g trees, and m a merge.
use Rattle.std.proofs.Common.{◌≡◌, ◌++◌, ◌&&◌, Bool, true, false, List, [], Option, map, refl, sym, ap, ◌∙◌, inl, inr, append_assoc, append-nil, None}
use Rattle.std.specs.Prelude.{filter, not}
use Rattle.std.specs.Option.{option_eq}
use Rattle.std.specs.Str.{bytes_eq}
use Rattle.std.proofs.lemmas.Bool.{cases_Bool, or_parts}
use Rattle.std.proofs.lemmas.List.Elements.{filter-append}
use Rattle.std.proofs.lemmas.List.{map-append}
use Rattle.forest.specs.Forest.{Forest}
use Rattle.forest.specs.Keys.{Keyed, HasDistinctKeys}
use Rattle.plain_types.specs.declared.counter_style.CounterStyle.{CounterStyle}
use Rattle.plain_types.specs.declared.node.Node.{Node}
use Rattle.counter_sets.specs.Sets.{is_same_box}
use Rattle.reversed_start.specs.declared.event.Event.{Event}
use Rattle.reversed_start.specs.Starts.{start}
use Rattle.box_eval.specs.declared.change.Change.{Change}
use Rattle.box_eval.specs.Evaluation.{StyledNode, styled}
use Rattle.box_eval.specs.Starts.{document_starts, no_starts}
use Rattle.merged_walk.specs.Evaluators.{Evaluator, past_all}
use Rattle.merged_walk.specs.Merges.{Merge, End, Kept, Turned, Gone, Come, has_place, new_of, old_of}
use Rattle.merged_walk.proofs.MergeLaws.{old-new}
use Rattle.surroundings.specs.declared.surroundings.Surroundings.{Surroundings}
use Rattle.surroundings.specs.declared.told.Told.{Told}
use Rattle.surroundings.specs.StyledEvaluators.{inside_node, past_styled, root_surroundings, styled_evaluator}
use Rattle.surroundings.specs.Surroundings.{is_same}
use Rattle.surroundings.proofs.SameLaws.{handed-Decides}
use Rattle.document_walk.specs.TreeChanges.{changes_after_children, changes_before_children, tree_changes}
use Rattle.document_walk.proofs.ChangeLemmas.{document_changes}
use Rattle.document_walk.proofs.StyledKeys.{styled_distinct}
use Rattle.styled_merge.specs.StyledMerges.{Styling}
use Rattle.edit_work.specs.Counters.{Identity}
use Rattle.start_reach.specs.CounterChanges.{DoesSame, LeavesAlone, counter_events, is_entered}
use Rattle.start_reach.specs.Laws.{EventsStay, StartsStay}

-- Events.

module _ (counter : Identity) where
  abbrev its : List Change → List Event
  its changes = counter_events counter changes

  abbrev is_of : Change → Bool
  is_of change = is_same_box change.creator counter.creator && bytes_eq change.name counter.name

  pub its-append : (xs ys : List Change) → its (xs ++ ys) ≡ its xs ++ its ys
  its-append xs ys =
      ap (map (λ (change : Change). change.event)) (filter-append is_of xs ys)
      ∙ map-append (λ (change : Change). change.event) (filter is_of xs) (filter is_of ys)

  two : (xs xs' ys ys' : List Change) → its xs ≡ its xs' → its ys ≡ its ys' → its (xs ++ ys) ≡ its (xs' ++ ys')
  two xs xs' ys ys' h i = its-append xs ys ∙ ap (λ es. es ++ its ys) h ∙ ap (λ es. its xs' ++ es) i ∙ sym (its-append xs' ys')

  -- what a node does before its children, what these do, what the node does after them, and what is done behind it
  pub four : (xs xs' ys ys' zs zs' ws ws' : List Change) → its xs ≡ its xs' → its ys ≡ its ys' → its zs ≡ its zs' → its ws ≡ its ws'
      → its (xs ++ (ys ++ (zs ++ ws))) ≡ its (xs' ++ (ys' ++ (zs' ++ ws')))
  four xs xs' ys ys' zs zs' ws ws' x y z w = two xs xs' (ys ++ (zs ++ ws)) (ys' ++ (zs' ++ ws')) x (two ys ys' (zs ++ ws) (zs' ++ ws') y (two zs zs' ws ws' z w))

  -- one that does nothing with all in it is left out
  without : (xs ys zs ws : List Change) → its (xs ++ (ys ++ (zs ++ []))) ≡ [] → its (xs ++ (ys ++ (zs ++ ws))) ≡ its ws
  without xs ys zs ws none =
      let whole : List Change = xs ++ (ys ++ zs) in
      let same : xs ++ (ys ++ (zs ++ [])) ≡ whole = ap (λ (zs : List Change). xs ++ (ys ++ zs)) (append-nil zs) in
      let split : xs ++ (ys ++ (zs ++ ws)) ≡ whole ++ ws = ap (λ (all : List Change). xs ++ all) (sym (append_assoc ys zs ws)) ∙ sym (append_assoc xs (ys ++ zs) ws) in
      ap its split ∙ its-append whole ws ∙ ap (λ (es : List Event). es ++ its ws) (sym (ap its same) ∙ none)

-- Merges.

pub not-false : (b : Bool) → not b ≡ false → b ≡ true
not-false true h = refl
not-false false h = absurd (cc h)

module _ (table : List CounterStyle) (counter : Identity) where
  abbrev e : Evaluator StyledNode Told (Option Surroundings)
  e = styled_evaluator table

  abbrev Same : (n : Keyed StyledNode) (c : Merge StyledNode) (i j : Option Surroundings) → Type 0
  Same n c i j = DoesSame table counter n n i j (past_all e (inside_node table n i) (new_of c)) (past_all e (inside_node table n j) (old_of c))

  -- a node that is handed the same and has no place under it does the same
  pub skipped : (n : Keyed StyledNode) (c : Merge StyledNode) (i j : Option Surroundings) → has_place c ≡ false → i ≡ j → Same n c i j
  skipped n c i j none same = record {
    before_children = ap (λ i. counter_events counter (changes_before_children table n i)) same;
    after_children =
        ap (λ i. counter_events counter (changes_after_children table n i (past_all e (inside_node table n i) (new_of c)))) same
        ∙ ap (λ g. counter_events counter (changes_after_children table n j (past_all e (inside_node table n j) g))) (sym (old-new c none));
  }

  -- so does each that stays
  pub same-kept : (n : Keyed StyledNode) (c : Merge StyledNode) (i j : Option Surroundings) → (is_entered i j c ≡ true → Same n c i j) → Same n c i j
  same-kept n c i j entered = elim (cases_Bool (is_entered i j c)) [
    | inl is ↦ entered is
    | inr is ↦
        let parts = or_parts (has_place c) (not (option_eq is_same i j)) is in
        skipped n c i j parts.0 ((handed-Decides i j).0 (not-false (option_eq is_same i j) parts.1))
  ]

  pub events-stay : (m : Merge StyledNode) (i j : Option Surroundings) → LeavesAlone table counter i j m
      → counter_events counter (tree_changes table i (new_of m)) ≡ counter_events counter (tree_changes table j (old_of m))
  events-stay End i j h = refl
  events-stay (Kept n c r) i j h =
      let inner = inside_node table n i in
      let was_inner = inside_node table n j in
      let x = past_all e inner (new_of c) in
      let y = past_all e was_inner (old_of c) in
      let next = past_styled table n i x in
      let was_next = past_styled table n j y in
      let same = same-kept n c i j h.0 in
      four counter (changes_before_children table n i) (changes_before_children table n j) (tree_changes table inner (new_of c)) (tree_changes table was_inner (old_of c))
      (changes_after_children table n i x) (changes_after_children table n j y) (tree_changes table next (new_of r)) (tree_changes table was_next (old_of r))
      same.before_children (events-stay c inner was_inner h.1) same.after_children (events-stay r next was_next h.2)
  events-stay (Turned was n c r) i j h =
      let inner = inside_node table n i in
      let was_inner = inside_node table was j in
      let x = past_all e inner (new_of c) in
      let y = past_all e was_inner (old_of c) in
      let next = past_styled table n i x in
      let was_next = past_styled table was j y in
      four counter (changes_before_children table n i) (changes_before_children table was j) (tree_changes table inner (new_of c)) (tree_changes table was_inner (old_of c))
      (changes_after_children table n i x) (changes_after_children table was j y) (tree_changes table next (new_of r)) (tree_changes table was_next (old_of r))
      h.0.before_children (events-stay c inner was_inner h.1) h.0.after_children (events-stay r next was_next h.2)
  events-stay (Gone n c r) i j h =
      let was_inner = inside_node table n j in
      let y = past_all e was_inner c in
      let was_next = past_styled table n j y in
      events-stay r i was_next h.1
      ∙ sym (without counter (changes_before_children table n j) (tree_changes table was_inner c) (changes_after_children table n j y) (tree_changes table was_next (old_of r)) h.0)
  events-stay (Come n c r) i j h =
      let inner = inside_node table n i in
      let x = past_all e inner c in
      let next = past_styled table n i x in
      without counter (changes_before_children table n i) (tree_changes table inner c) (changes_after_children table n i x) (tree_changes table next (new_of r)) h.0
      ∙ events-stay r next j h.1

pub events_stay : EventsStay
events_stay table counter handed was_handed merge alone = events-stay table counter merge handed was_handed alone

-- what the boxes of two documents do to a counter tells its start in both
pub starts-by-events : (table : List CounterStyle) (old_style new_style : Styling) (old new : Forest (Keyed Node)) → HasDistinctKeys old → HasDistinctKeys new → (counter : Identity)
    → counter_events counter (tree_changes table root_surroundings (styled new_style no_starts new)) ≡ counter_events counter (tree_changes table root_surroundings (styled old_style no_starts old))
    → document_starts table new_style new counter.creator counter.name ≡ document_starts table old_style old counter.creator counter.name
starts-by-events table old_style new_style old new old_distinct new_distinct counter same =
    let was = styled old_style no_starts old in
    let now = styled new_style no_starts new in
    ap (λ all. start (counter_events counter all)) (sym (document_changes table now (styled_distinct new_style no_starts new None new_distinct)))
    ∙ ap start same
    ∙ ap (λ all. start (counter_events counter all)) (document_changes table was (styled_distinct old_style no_starts old None old_distinct))

pub starts_stay : StartsStay
starts_stay table old_style new_style old new merge old_distinct new_distinct merges counter alone =
    starts-by-events table old_style new_style old new old_distinct new_distinct counter
    (ap (λ g. counter_events counter (tree_changes table root_surroundings g)) (sym merges.new)
    ∙ events-stay table counter merge root_surroundings root_surroundings alone
    ∙ ap (λ g. counter_events counter (tree_changes table root_surroundings g)) merges.old)
