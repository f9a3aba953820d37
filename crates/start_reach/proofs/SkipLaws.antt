-- Where a walk does not go into an element, no counter created under it has other events than before. Throughout, i is what a
-- level is handed, j what it was handed, n a node, c what is under it, r what is after it (d and s the same before), g trees now
-- and f before, m a merge, and k a key.
use Rattle.std.proofs.Common.{◌≡◌, ◌==◌, ◌<◌, ◌&&◌, ℕ, Bool, false, cond, List, [], ◌∷◌, Option, None, map, refl, sym, ap, subst, ◌∙◌, arith}
use Rattle.std.specs.Prelude.{filter, not}
use Rattle.std.specs.List.{AllByRecursion}
use Rattle.std.specs.Option.{option_eq}
use Rattle.std.specs.Str.{bytes_eq}
use Rattle.std.proofs.lemmas.Bool.{or_parts}
use Rattle.forest.specs.Forest.{Forest, Tree}
use Rattle.forest.specs.Keys.{Keyed, HasDistinctKeys, times}
use Rattle.forest.proofs.SpotLaws.{distinct-parts, not-root}
use Rattle.plain_types.specs.declared.counter_style.CounterStyle.{CounterStyle}
use Rattle.counter_sets.specs.Sets.{is_same_box, is_same_kind}
use Rattle.box_eval.specs.declared.change.Change.{Change}
use Rattle.box_eval.specs.Boxes.{box_of}
use Rattle.box_eval.specs.Evaluation.{StyledNode, styled}
use Rattle.box_eval.specs.Starts.{document_starts, no_starts}
use Rattle.merged_walk.specs.Evaluators.{Evaluator, past_all}
use Rattle.merged_walk.specs.Merges.{Merge, End, Kept, Turned, Gone, Come, has_place, new_of, old_of}
use Rattle.merged_walk.proofs.MergeLaws.{old-new}
use Rattle.surroundings.specs.declared.surroundings.Surroundings.{Surroundings}
use Rattle.surroundings.specs.declared.told.Told.{Told}
use Rattle.surroundings.specs.StyledEvaluators.{inside_node, past_styled, root_surroundings, styled_evaluator}
use Rattle.surroundings.specs.Surroundings.{is_same}
use Rattle.surroundings.proofs.SameLaws.{handed-Decides}
use Rattle.document_walk.specs.TreeChanges.{changes_after_children, changes_before_children, tree_changes}
use Rattle.document_walk.proofs.StyledKeys.{styled_distinct}
use Rattle.styled_merge.specs.Stays.{HasSameBoxStarts}
use Rattle.edit_work.specs.Counters.{Identity}
use Rattle.start_reach.specs.CounterChanges.{OfEachSkipped, counter_events, is_entered}
use Rattle.start_reach.specs.Laws.{SkippedStartsStay}
use Rattle.start_reach.proofs.CounterLaws.{four, not-false, starts-by-events}
use Rattle.start_reach.proofs.OtherLaws.{HandsOther, IsOfOther, do-nothing, does-nothing}

-- changes of other elements' counters are none of this one's
module _ (k : ℕ) (counter : Identity) (is : counter.creator.key ≡ k) where
  abbrev is_of : Change → Bool
  is_of change = is_same_box change.creator counter.creator && bytes_eq change.name counter.name

  of-other : (change : Change) → IsOfOther k change → is_of change ≡ false
  of-other change h = ap (λ b. (b && is_same_kind change.creator.kind counter.creator.kind) && bytes_eq change.name counter.name) (ap (λ q. change.creator.key == q) is ∙ h)

  of-others : (changes : List Change) → AllByRecursion (IsOfOther k) changes → filter is_of changes ≡ []
  of-others [] h = refl
  of-others (change ∷ changes) h = ap (λ b. cond b (change ∷ filter is_of changes) (filter is_of changes)) (of-other change h.0) ∙ of-others changes h.1

  none-of : (changes : List Change) → AllByRecursion (IsOfOther k) changes → counter_events counter changes ≡ []
  none-of changes others = ap (map (λ (change : Change). change.event)) (of-others changes others)

-- what holds of keys, weaker
pub each-weaker : (table : List CounterStyle) (P Q : ℕ → Type 0) → ((k : ℕ) → P k → Q k) → (m : Merge StyledNode) (i j : Option Surroundings) → OfEachSkipped table P i j m → OfEachSkipped table Q i j m
each-weaker table P Q weaker End i j h = tt
each-weaker table P Q weaker (Kept n c r) i j h =
    (λ skipped k there. weaker k (h.0 skipped k there), each-weaker table P Q weaker c _ _ h.1, each-weaker table P Q weaker r _ _ h.2)
each-weaker table P Q weaker (Turned was n c r) i j h = (each-weaker table P Q weaker c _ _ h.0, each-weaker table P Q weaker r _ _ h.1)
each-weaker table P Q weaker (Gone n c r) i j h = each-weaker table P Q weaker r _ _ h
each-weaker table P Q weaker (Come n c r) i j h = each-weaker table P Q weaker r _ _ h

module _ (table : List CounterStyle) where
  abbrev e : Evaluator StyledNode Told (Option Surroundings)
  e = styled_evaluator table

  -- The counters of an element of trees have the events that they had, where the trees are handed none of them; and then none
  -- is handed on behind the trees.
  pub record IsSame (k : ℕ) (g f : Forest (Keyed StyledNode)) (i j : Option Surroundings) : Type 0 where
    pub events : (counter : Identity) → counter.creator.key ≡ k → counter_events counter (tree_changes table i g) ≡ counter_events counter (tree_changes table j f)
    pub past : HandsOther k table (past_all e i g)
    pub was_past : HandsOther k table (past_all e j f)

  pub record Stays (g f : Forest (Keyed StyledNode)) (i j : Option Surroundings) (k : ℕ) : Type 0 where
    pub there : 0 < times k g
    pub was_there : 0 < times k f
    pub same : HandsOther k table i → HandsOther k table j → IsSame k g f i j

  module _ (k : ℕ) where
    beside-none : (n : Keyed StyledNode) (c r : Forest (Keyed StyledNode)) → HasDistinctKeys (Tree n c r) → 0 < times k c → times k r ≡ 0
    beside-none n c r d there = omega (arith, d k, there)

    below-none : (n : Keyed StyledNode) (c r : Forest (Keyed StyledNode)) → HasDistinctKeys (Tree n c r) → 0 < times k r → times k c ≡ 0
    below-none n c r d there = omega (arith, d k, there)

    -- a node whose children the element is among
    in-children : (was n : Keyed StyledNode) (c r d s : Forest (Keyed StyledNode)) (i j : Option Surroundings) → HasDistinctKeys (Tree n c r) → HasDistinctKeys (Tree was d s)
        → Stays c d (inside_node table n i) (inside_node table was j) k → Stays (Tree n c r) (Tree was d s) i j k
    in-children was n c r d s i j distinct was_distinct h = record {
      there = omega (arith, h.there);
      was_there = omega (arith, h.was_there);
      same =
          λ good was_good.
          (let x = past_all e (inside_node table n i) c in
          let y = past_all e (inside_node table was j) d in
          let next = past_styled table n i x in
          let was_next = past_styled table was j y in
          let node = does-nothing k table n i (not-root n c r k distinct (omega (arith, h.there))) good in
          let was_node = does-nothing k table was j (not-root was d s k was_distinct (omega (arith, h.was_there))) was_good in
          let inner = h.same node.within was_node.within in
          let after = do-nothing k table r next (beside-none n c r distinct h.there) (node.past x) in
          let was_after = do-nothing k table s was_next (beside-none was d s was_distinct h.was_there) (was_node.past y) in
          record {
            events =
                λ counter is.
                four counter (changes_before_children table n i) (changes_before_children table was j) (tree_changes table (inside_node table n i) c) (tree_changes table (inside_node table was j) d)
                (changes_after_children table n i x) (changes_after_children table was j y) (tree_changes table next r) (tree_changes table was_next s)
                (none-of k counter is _ node.first ∙ sym (none-of k counter is _ was_node.first))
                (inner.events counter is)
                (none-of k counter is _ (node.last x inner.past) ∙ sym (none-of k counter is _ (was_node.last y inner.was_past)))
                (none-of k counter is _ after.changes ∙ sym (none-of k counter is _ was_after.changes));
            past = after.past;
            was_past = was_after.past;
          });
    }

    -- a node after which the element is
    in-rest : (was n : Keyed StyledNode) (c r d s : Forest (Keyed StyledNode)) (i j : Option Surroundings) → HasDistinctKeys (Tree n c r) → HasDistinctKeys (Tree was d s)
        → Stays r s (past_styled table n i (past_all e (inside_node table n i) c)) (past_styled table was j (past_all e (inside_node table was j) d)) k → Stays (Tree n c r) (Tree was d s) i j k
    in-rest was n c r d s i j distinct was_distinct h = record {
      there = omega (arith, h.there);
      was_there = omega (arith, h.was_there);
      same =
          λ good was_good.
          (let x = past_all e (inside_node table n i) c in
          let y = past_all e (inside_node table was j) d in
          let next = past_styled table n i x in
          let was_next = past_styled table was j y in
          let node = does-nothing k table n i (not-root n c r k distinct (omega (arith, h.there))) good in
          let was_node = does-nothing k table was j (not-root was d s k was_distinct (omega (arith, h.was_there))) was_good in
          let below = do-nothing k table c (inside_node table n i) (below-none n c r distinct h.there) node.within in
          let was_below = do-nothing k table d (inside_node table was j) (below-none was d s was_distinct h.was_there) was_node.within in
          let after = h.same (node.past x) (was_node.past y) in
          record {
            events =
                λ counter is.
                four counter (changes_before_children table n i) (changes_before_children table was j) (tree_changes table (inside_node table n i) c) (tree_changes table (inside_node table was j) d)
                (changes_after_children table n i x) (changes_after_children table was j y) (tree_changes table next r) (tree_changes table was_next s)
                (none-of k counter is _ node.first ∙ sym (none-of k counter is _ was_node.first))
                (none-of k counter is _ below.changes ∙ sym (none-of k counter is _ was_below.changes))
                (none-of k counter is _ (node.last x below.past) ∙ sym (none-of k counter is _ (was_node.last y was_below.past)))
                (after.events counter is);
            past = after.past;
            was_past = after.was_past;
          });
    }

    -- what is left of a level behind a tree that does nothing
    left-out : (n : Keyed StyledNode) (c r : Forest (Keyed StyledNode)) (i : Option Surroundings) (counter : Identity) → counter.creator.key ≡ k
        → let x : Option Surroundings = past_all e (inside_node table n i) c in
        AllByRecursion (IsOfOther k) (changes_before_children table n i) → AllByRecursion (IsOfOther k) (tree_changes table (inside_node table n i) c)
        → AllByRecursion (IsOfOther k) (changes_after_children table n i x)
        → counter_events counter (tree_changes table i (Tree n c r)) ≡ counter_events counter (tree_changes table (past_styled table n i x) r)
    left-out n c r i counter is first below last =
        let x = past_all e (inside_node table n i) c in
        let rest = tree_changes table (past_styled table n i x) r in
        four counter (changes_before_children table n i) [] (tree_changes table (inside_node table n i) c) [] (changes_after_children table n i x) [] rest rest
        (none-of k counter is _ first) (none-of k counter is _ below) (none-of k counter is _ last) refl

    behind-gone : (n : Keyed StyledNode) (c r s : Forest (Keyed StyledNode)) (i j : Option Surroundings) → HasDistinctKeys (Tree n c s)
        → Stays r s i (past_styled table n j (past_all e (inside_node table n j) c)) k → Stays r (Tree n c s) i j k
    behind-gone n c r s i j distinct h = record {
      there = h.there;
      was_there = omega (arith, h.was_there);
      same =
          λ good was_good.
          (let y = past_all e (inside_node table n j) c in
          let node = does-nothing k table n j (not-root n c s k distinct (omega (arith, h.was_there))) was_good in
          let below = do-nothing k table c (inside_node table n j) (below-none n c s distinct h.was_there) node.within in
          let after = h.same good (node.past y) in
          record {
            events = λ counter is. after.events counter is ∙ sym (left-out n c s j counter is node.first below.changes (node.last y below.past));
            past = after.past;
            was_past = after.was_past;
          });
    }

    behind-come : (n : Keyed StyledNode) (c r s : Forest (Keyed StyledNode)) (i j : Option Surroundings) → HasDistinctKeys (Tree n c r)
        → Stays r s (past_styled table n i (past_all e (inside_node table n i) c)) j k → Stays (Tree n c r) s i j k
    behind-come n c r s i j distinct h = record {
      there = omega (arith, h.there);
      was_there = h.was_there;
      same =
          λ good was_good.
          (let x = past_all e (inside_node table n i) c in
          let node = does-nothing k table n i (not-root n c r k distinct (omega (arith, h.there))) good in
          let below = do-nothing k table c (inside_node table n i) (below-none n c r distinct h.there) node.within in
          let after = h.same (node.past x) was_good in
          record {
            events = λ counter is. left-out n c r i counter is node.first below.changes (node.last x below.past) ∙ after.events counter is;
            past = after.past;
            was_past = after.was_past;
          });
    }

    -- The element is under a node that has the same under it, and is handed the same.
    under-same : (n : Keyed StyledNode) (c r s : Forest (Keyed StyledNode)) (i j : Option Surroundings) → i ≡ j → HasDistinctKeys (Tree n c r) → HasDistinctKeys (Tree n c s)
        → 0 < times k c → Stays (Tree n c r) (Tree n c s) i j k
    under-same n c r s i j equal distinct was_distinct there = record {
      there = omega (arith, there);
      was_there = omega (arith, there);
      same =
          λ good was_good.
          (let x = past_all e (inside_node table n i) c in
          let y = past_all e (inside_node table n j) c in
          let next = past_styled table n i x in
          let was_next = past_styled table n j y in
          let not = not-root n c r k distinct (omega (arith, there)) in
          let after = do-nothing k table r next (beside-none n c r distinct there) ((does-nothing k table n i not good).past x) in
          let was_after = do-nothing k table s was_next (beside-none n c s was_distinct there) ((does-nothing k table n j not was_good).past y) in
          record {
            events =
                λ counter is.
                four counter (changes_before_children table n i) (changes_before_children table n j) (tree_changes table (inside_node table n i) c) (tree_changes table (inside_node table n j) c)
                (changes_after_children table n i x) (changes_after_children table n j y) (tree_changes table next r) (tree_changes table was_next s)
                (ap (λ i. counter_events counter (changes_before_children table n i)) equal)
                (ap (λ i. counter_events counter (tree_changes table (inside_node table n i) c)) equal)
                (ap (λ i. counter_events counter (changes_after_children table n i (past_all e (inside_node table n i) c))) equal)
                (none-of k counter is _ after.changes ∙ sym (none-of k counter is _ was_after.changes));
            past = after.past;
            was_past = was_after.past;
          });
    }

  under-skipped : (n : Keyed StyledNode) (c r : Merge StyledNode) (i j : Option Surroundings) → HasDistinctKeys (new_of (Kept n c r)) → HasDistinctKeys (old_of (Kept n c r))
      → is_entered i j c ≡ false → (k : ℕ) → 0 < times k (new_of c) → Stays (new_of (Kept n c r)) (old_of (Kept n c r)) i j k
  under-skipped n c r i j distinct was_distinct skipped k there =
      let parts = or_parts (has_place c) (not (option_eq is_same i j)) skipped in
      let same : old_of c ≡ new_of c = old-new c parts.0 in
      subst (λ d. HasDistinctKeys (Tree n d (old_of r)) → Stays (Tree n (new_of c) (new_of r)) (Tree n d (old_of r)) i j k) (sym same)
      (λ was. under-same k n (new_of c) (new_of r) (old_of r) i j ((handed-Decides i j).0 (not-false (option_eq is_same i j) parts.1)) distinct was there)
      was_distinct

  pub skipped-stay : (m : Merge StyledNode) (i j : Option Surroundings) → HasDistinctKeys (new_of m) → HasDistinctKeys (old_of m) → OfEachSkipped table (Stays (new_of m) (old_of m) i j) i j m
  skipped-stay End i j d w = tt
  skipped-stay (Kept n c r) i j d w =
      let parts = distinct-parts n (new_of c) (new_of r) d in
      let was_parts = distinct-parts n (old_of c) (old_of r) w in (
        under-skipped n c r i j d w,
        each-weaker table _ (Stays (new_of (Kept n c r)) (old_of (Kept n c r)) i j) (λ k. in-children k n n (new_of c) (new_of r) (old_of c) (old_of r) i j d w) c _ _
            (skipped-stay c (inside_node table n i) (inside_node table n j) parts.0 was_parts.0),
        each-weaker table _ (Stays (new_of (Kept n c r)) (old_of (Kept n c r)) i j) (λ k. in-rest k n n (new_of c) (new_of r) (old_of c) (old_of r) i j d w) r _ _
            (skipped-stay r _ _ parts.1 was_parts.1),
      )
  skipped-stay (Turned was n c r) i j d w =
      let parts = distinct-parts n (new_of c) (new_of r) d in
      let was_parts = distinct-parts was (old_of c) (old_of r) w in (
        each-weaker table _ (Stays (new_of (Turned was n c r)) (old_of (Turned was n c r)) i j) (λ k. in-children k was n (new_of c) (new_of r) (old_of c) (old_of r) i j d w) c _ _
            (skipped-stay c (inside_node table n i) (inside_node table was j) parts.0 was_parts.0),
        each-weaker table _ (Stays (new_of (Turned was n c r)) (old_of (Turned was n c r)) i j) (λ k. in-rest k was n (new_of c) (new_of r) (old_of c) (old_of r) i j d w) r _ _
            (skipped-stay r _ _ parts.1 was_parts.1),
      )
  skipped-stay (Gone n c r) i j d w =
      each-weaker table _ (Stays (new_of (Gone n c r)) (old_of (Gone n c r)) i j) (λ k. behind-gone k n c (new_of r) (old_of r) i j w) r _ _
      (skipped-stay r i _ d (distinct-parts n c (old_of r) w).1)
  skipped-stay (Come n c r) i j d w =
      each-weaker table _ (Stays (new_of (Come n c r)) (old_of (Come n c r)) i j) (λ k. behind-come k n c (new_of r) (old_of r) i j d) r _ _
      (skipped-stay r _ j (distinct-parts n c (new_of r) d).1 w)

pub skipped_starts_stay : SkippedStartsStay
skipped_starts_stay table old_style new_style old new merge old_distinct new_distinct merges =
    let now = styled new_style no_starts new in
    let was = styled old_style no_starts old in
    let nothing = λ (k : ℕ). (let hands : HandsOther k table root_surroundings = record { parent = tt; sibling = tt } in hands) in
    let starts : (k : ℕ) → Stays table (new_of merge) (old_of merge) root_surroundings root_surroundings k → HasSameBoxStarts (document_starts table old_style old) (document_starts table new_style new) k =
    λ k h which name. (
    let counter : Identity = record { creator = box_of k which; name = name } in
    sym (
    starts-by-events table old_style new_style old new old_distinct new_distinct counter
    (ap (λ g. counter_events counter (tree_changes table root_surroundings g)) (sym merges.new)
    ∙ (h.same (nothing k) (nothing k)).events counter refl
    ∙ ap (λ g. counter_events counter (tree_changes table root_surroundings g)) merges.old))) in
    each-weaker table (Stays table (new_of merge) (old_of merge) root_surroundings root_surroundings) (HasSameBoxStarts (document_starts table old_style old) (document_starts table new_style new)) starts
    merge root_surroundings root_surroundings
    (skipped-stay table merge root_surroundings root_surroundings
    (subst HasDistinctKeys (sym merges.new) (styled_distinct new_style no_starts new None new_distinct))
    (subst HasDistinctKeys (sym merges.old) (styled_distinct old_style no_starts old None old_distinct)))
