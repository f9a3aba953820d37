-- Elements that are handed no counter of another element do nothing to its counters, and hand none on. Throughout, k is the key
-- of that element, i what a level is handed, n a node, c what is under it, r what is after it, and g trees.
use Rattle.std.proofs.Common.{◌≡◌, ◌==◌, ◌∷◌, ◌+◌, ℕ, ℤ, Bool, true, false, cond, List, [], map, Option, Some, None, suc, slice_get, refl, ap, ◌∙◌, arith}
use Rattle.std.specs.Prelude.{IfSome, unwrap_or}
use Rattle.std.specs.List.{AllByRecursion}
use Rattle.std.specs.Option.{option_and_then, option_map_or}
use Rattle.forest.specs.Forest.{Forest, Empty, Tree}
use Rattle.forest.specs.Keys.{Keyed, times}
use Rattle.plain_types.specs.declared.box_id.BoxId.{BoxId}
use Rattle.plain_types.specs.declared.box_kind.BoxKind.{BoxKind}
use Rattle.plain_types.specs.declared.box_kind.BoxKind.TheVariants as kind
use Rattle.plain_types.specs.declared.counter.Counter.{Counter}
use Rattle.plain_types.specs.declared.counter_style.CounterStyle.{CounterStyle}
use Rattle.plain_types.specs.declared.style.CounterOp.{CounterOp}
use Rattle.plain_types.specs.declared.style.Style.{Style}
use Rattle.counter_sets.specs.Sets.{innermost, is_missing_in, is_named, last_place}
use Rattle.box_eval.specs.declared.change.Change.{Change}
use Rattle.box_eval.specs.Boxes.{box_of, has_pseudo_box}
use Rattle.box_eval.specs.Elements.{Handed, Styled, before_of, behind_marker, by_parent, children_handed, closing_of, content_of, formed_box, inherited_by, inside, is_replaced_in, marker_of, no_box, own_counted, pseudo_counted}
use Rattle.box_eval.specs.Evaluation.{Element, StyledNode, Text, changes_in, first_changes, is_boxed, past_node, within}
use Rattle.box_eval.specs.Properties.{change_of}
use Rattle.box_eval.proofs.DocumentLemmas.{AreGood, children_good, own_is_good}
use Rattle.box_eval.proofs.ElementLemmas.{Holds, marker_good}
use Rattle.box_eval.proofs.EntryLemmas.{next_inherits}
use Rattle.box_eval.proofs.KeptLemmas.{counted_good, inherited_good}
use Rattle.box_eval.proofs.ListLemmas.{each_append, each_imp}
use Rattle.merged_walk.specs.Evaluators.{Evaluator, past_all}
use Rattle.surroundings.specs.declared.surroundings.Surroundings.{Surroundings}
use Rattle.surroundings.specs.declared.told.Told.{Told}
use Rattle.surroundings.specs.StyledEvaluators.{inside_node, past_styled, said_in, styled_evaluator}
use Rattle.surroundings.specs.Surroundings.{HandsOn, IsByOther, handed_by, surroundings_of}
use Rattle.document_walk.specs.TreeChanges.{changes_after_children, changes_before_children, tree_changes}

-- The innermost counter of a name is one of the set.
pub found : (P : Counter → Type 0) (name : List ℕ) (set : List Counter) → AllByRecursion P set → IfSome (innermost set name) P
found P name [] h = tt
found P name (counter ∷ set) h = by-place (last_place (is_named name) set) (found P name set h.1)
  where
    by-here : (b : Bool) → IfSome (option_and_then (slice_get (counter ∷ set)) (cond b (Some 0) None)) P
    by-here true = h.0
    by-here false = tt

    by-place : (o : Option ℕ) → IfSome (option_and_then (slice_get set) o) P
        → IfSome (option_and_then (slice_get (counter ∷ set)) (option_map_or (λ place. Some (suc place)) o (cond (is_named name counter) (Some 0) None))) P
    by-place None rest = by-here (is_named name counter)
    by-place (Some place) rest = rest

module _ (k : ℕ) where
  abbrev pub IsOther : Counter → Type 0
  IsOther counter = IsByOther k counter

  -- a change of a counter that another element created
  abbrev pub IsOfOther : Change → Type 0
  IsOfOther change = (change.creator.key == k) ≡ false

  steady : (counter : Counter) (value : ℤ) → IsOther counter → IsOther (record counter { value = value })
  steady counter value h = h

  creator-other : (box : BoxId) → (box.key == k) ≡ false → (o : Option Counter) → IfSome o IsOther → ((option_map_or (λ (counter : Counter). counter.creator) o box).key == k) ≡ false
  creator-other box apart None h = apart
  creator-other box apart (Some counter) h = h

  names-other : (box : BoxId) (increments assigns : List CounterOp) (set : List Counter) → (box.key == k) ≡ false → AllByRecursion IsOther set
      → (names : List (List ℕ)) → AllByRecursion IsOfOther (map (change_of box increments assigns set) names)
  names-other box increments assigns set apart good [] = tt
  names-other box increments assigns set apart good (name ∷ names) =
      (creator-other box apart (innermost set name) (found IsOther name set good), names-other box increments assigns set apart good names)

  module _ (table : List CounterStyle) where
    -- An element with a box.
    module _ (key : ℕ) (element : Styled) (apart : (key == k) ≡ false) where
      mine : (which : BoxKind) (counter : Counter) → counter.creator ≡ box_of key which → IsOther counter
      mine which counter e = ap (λ (box : BoxId). box.key == k) e ∙ apart

      formed-other : (which : BoxKind) (style : Style) (handed : Handed) → AllByRecursion IsOther (inherited_by handed) → (b : Bool)
          → AllByRecursion IsOfOther (changes_in (cond b (formed_box (pseudo_counted table by_parent key element which style handed).changes (content_of table by_parent key element which style (pseudo_counted table by_parent key element which style handed).set handed)) (no_box handed.depth)).made)
      formed-other which style handed good true =
          names-other (box_of key which) _ _ (pseudo_counted table by_parent key element which style handed).set apart
          (counted_good IsOther steady (is_replaced_in table by_parent key element which handed) (box_of key which) (mine which) element.starts false style (inherited_by handed) good) _
      formed-other which style handed good false = tt

      inherits-other : (handed : Handed) → AreGood IsOther handed → AllByRecursion IsOther (inherited_by handed)
      inherits-other handed good =
          inherited_good IsOther steady handed.parent handed.sibling handed.preceding good.parent
          (each_imp IsOther (λ counter. is_missing_in handed.parent counter ≡ true → IsOther counter) (λ counter h e. h) (unwrap_or handed.sibling []) good.sibling)

      own-set : (handed : Handed) → AreGood IsOther handed → AllByRecursion IsOther (own_counted table by_parent key element handed).set
      own-set handed good = own_is_good table key element handed IsOther steady good (λ which counter e _. mine which counter e)

      own-other : (handed : Handed) → AreGood IsOther handed → AllByRecursion IsOfOther (own_counted table by_parent key element handed).changes
      own-other handed good = names-other (box_of key kind.Element) _ _ (own_counted table by_parent key element handed).set apart (own-set handed good) _

      before-other : (handed : Handed) → AreGood IsOther handed → AllByRecursion IsOfOther (changes_in (before_of table by_parent key element handed).made)
      before-other handed good =
          let own = (own_counted table by_parent key element handed).set in
          let own_good = own-set handed good in
          let marker = marker_of table by_parent key element handed in
          let marker_is : Holds (AllByRecursion IsOther) marker.made =
          marker_good IsOther steady table by_parent key element (inside own handed.depth) (inherited_good IsOther steady own None (Some own) own_good tt) (λ _ counter e. mine kind.Marker counter e) in
          formed-other kind.Before element.style.before (behind_marker table by_parent key element handed)
          (next_inherits IsOther steady (box_of key kind.Marker) own handed.depth marker.depth marker.made own_good marker_is) (has_pseudo_box element.style.before)

      after-other : (behind : Handed) → AreGood IsOther behind → AllByRecursion IsOfOther (changes_in (closing_of table by_parent key element behind).after)
      after-other behind good = formed-other kind.After element.style.after behind (inherits-other behind good) (has_pseudo_box element.style.after)

      inside-good : (handed : Handed) → AreGood IsOther handed → AreGood IsOther (children_handed table by_parent key element handed)
      inside-good handed good = children_good table key element handed IsOther steady good (λ which counter e _. mine which counter e)

      next-good : (handed behind : Handed) → AreGood IsOther handed → AreGood IsOther (past_node table by_parent true key (Element element) handed behind)
      next-good handed behind good = record { parent = good.parent; sibling = own-set handed good }

    -- Any node.

    -- nothing of the element's is handed
    abbrev pub HandsOther : Option Surroundings → Type 0
    HandsOther None = Unit {0}
    HandsOther (Some around) = HandsOn IsOther around

    good-of : (around : Surroundings) → HandsOn IsOther around → AreGood IsOther (handed_by around)
    good-of around h = record { parent = h.parent; sibling = h.sibling }

    good-behind : (behind : Option Surroundings) (around : Surroundings) → HandsOther behind → HandsOn IsOther around → AreGood IsOther (handed_by (unwrap_or behind around))
    good-behind None around h k = good-of around k
    good-behind (Some behind) around h k = good-of behind h

    record IfBoxed (b : Bool) (key : ℕ) (label : StyledNode) (around : Surroundings) : Type 0 where
      pub first : AllByRecursion IsOfOther (first_changes table by_parent b key label (handed_by around))
      pub within : HandsOther (cond b (Some (surroundings_of (within table by_parent true key label (handed_by around)))) None)
      pub last : (behind : Option Surroundings) → HandsOther behind → AllByRecursion IsOfOther (changes_in (said_in table b key label (handed_by around) (handed_by (unwrap_or behind around))).after)
      pub past : (behind : Option Surroundings) → HandsOn IsOther (surroundings_of (past_node table by_parent b key label (handed_by around) (handed_by (unwrap_or behind around))))

    same-around : (around : Surroundings) → HandsOn IsOther around → HandsOn IsOther (surroundings_of (handed_by around))
    same-around around h = record { parent = h.parent; sibling = h.sibling }

    if-boxed : (b : Bool) (key : ℕ) (label : StyledNode) (around : Surroundings) → (key == k) ≡ false → HandsOn IsOther around → IfBoxed b key label around
    if-boxed true key (Element element) around apart good =
        let handed = handed_by around in
        let its = good-of around good in
        let inner = inside-good key element apart handed its in
        record {
          first =
              each_append IsOfOther (own_counted table by_parent key element handed).changes (changes_in (before_of table by_parent key element handed).made)
              (own-other key element apart handed its) (before-other key element apart handed its);
          within = record { parent = inner.parent; sibling = inner.sibling };
          last = λ behind h. after-other key element apart (handed_by (unwrap_or behind around)) (good-behind behind around h good);
          past = λ behind. (let next = next-good key element apart handed (handed_by (unwrap_or behind around)) its in record { parent = next.parent; sibling = next.sibling });
        }
    if-boxed true key Text around apart good = record { first = tt; within = same-around around good; last = λ behind h. tt; past = λ behind. same-around around good }
    if-boxed false key (Element element) around apart good = record { first = tt; within = tt; last = λ behind h. tt; past = λ behind. same-around around good }
    if-boxed false key Text around apart good = record { first = tt; within = tt; last = λ behind h. tt; past = λ behind. same-around around good }

    pub record DoesNothing (n : Keyed StyledNode) (i : Option Surroundings) : Type 0 where
      pub first : AllByRecursion IsOfOther (changes_before_children table n i)
      pub within : HandsOther (inside_node table n i)
      pub last : (behind : Option Surroundings) → HandsOther behind → AllByRecursion IsOfOther (changes_after_children table n i behind)
      pub past : (behind : Option Surroundings) → HandsOther (past_styled table n i behind)

    pub does-nothing : (n : Keyed StyledNode) (i : Option Surroundings) → (n.key == k) ≡ false → HandsOther i → DoesNothing n i
    does-nothing n None apart good = record { first = tt; within = tt; last = λ behind h. tt; past = λ behind. tt }
    does-nothing n (Some around) apart good =
        let its = if-boxed (is_boxed true n.label) n.key n.label around apart good in record { first = its.first; within = its.within; last = its.last; past = its.past }

    -- Trees.

    abbrev e : Evaluator StyledNode Told (Option Surroundings)
    e = styled_evaluator table

    pub record DoNothing (g : Forest (Keyed StyledNode)) (i : Option Surroundings) : Type 0 where
      pub changes : AllByRecursion IsOfOther (tree_changes table i g)
      pub past : HandsOther (past_all e i g)

    not-root-key : (n : Keyed StyledNode) (c r : Forest (Keyed StyledNode)) → times k (Tree n c r) ≡ 0 → (n.key == k) ≡ false
    not-root-key n c r none =
        elim (n.key == k) as (λ b. cond {A = ℕ} b 1 0 + (times k c + times k r) ≡ 0 → b ≡ false) [ true ↦ λ h. absurd (omega (arith, h)) | false ↦ λ h. refl ] none

    pub do-nothing : (g : Forest (Keyed StyledNode)) (i : Option Surroundings) → times k g ≡ 0 → HandsOther i → DoNothing g i
    do-nothing Empty i none good = record { changes = tt; past = good }
    do-nothing (Tree n c r) i none good =
        let here = does-nothing n i (not-root-key n c r none) good in
        let inner = inside_node table n i in
        let x = past_all e inner c in
        let next = past_styled table n i x in
        let below = do-nothing c inner (omega (arith, none)) here.within in
        let beside = do-nothing r next (omega (arith, none)) (here.past x) in
        record {
          changes =
              each_append IsOfOther (changes_before_children table n i) _ here.first
              (each_append IsOfOther (tree_changes table inner c) _ below.changes
              (each_append IsOfOther (changes_after_children table n i x) (tree_changes table next r) (here.last x below.past) beside.changes));
          past = beside.past;
        }
