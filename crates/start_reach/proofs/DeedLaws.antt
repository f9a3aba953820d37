-- A counter is left alone where what elements do to it is compared. Throughout, i is what a level is handed, j what it was handed,
-- n a node, c what is under it, r what is after it, g trees, m a merge, and k a key.
use Rattle.std.proofs.Common.{◌≡◌, ◌==◌, ◌+◌, ◌<◌, ◌++◌, ℕ, true, false, cond, List, [], ◌∷◌, Option, Some, None, refl, sym, ap, subst, ◌∙◌, inl, inr, arith, eq-eqb}
use Rattle.std.proofs.lemmas.Bool.{cases_Bool}
use Rattle.std.proofs.lemmas.List.Elements.{All-head}
use Rattle.forest.specs.Forest.{Forest, Empty, Tree}
use Rattle.forest.specs.Keys.{Keyed, HasDistinctKeys, times}
use Rattle.forest.proofs.SpotLaws.{some_or_none}
use Rattle.plain_types.specs.declared.counter_style.CounterStyle.{CounterStyle}
use Rattle.reversed_start.specs.declared.event.Event.{Event}
use Rattle.box_eval.specs.declared.change.Change.{Change}
use Rattle.box_eval.specs.Evaluation.{Element, StyledNode, Text}
use Rattle.merged_walk.specs.Counts.{weigh_places}
use Rattle.merged_walk.specs.Entries.{Holds}
use Rattle.merged_walk.specs.Evaluators.{Evaluator, past_all}
use Rattle.merged_walk.specs.Merges.{Merge, End, Kept, Turned, Gone, Come, new_of, old_of}
use Rattle.merged_walk.proofs.EntryLaws.{all-left, all-right}
use Rattle.surroundings.specs.declared.surroundings.Surroundings.{Surroundings}
use Rattle.surroundings.specs.declared.told.Told.{Told}
use Rattle.surroundings.specs.MergedLevels.{HasLeaves}
use Rattle.surroundings.specs.StyledEvaluators.{inside_node, is_element, past_styled, styled_evaluator}
use Rattle.document_walk.specs.TreeChanges.{changes_after_children, changes_before_children, tree_changes}
use Rattle.edit_work.specs.Counters.{Identity}
use Rattle.start_reach.specs.CounterChanges.{DoesSame, LeavesAlone, counter_events}
use Rattle.start_reach.specs.Deeds.{AreAlike, Deeds, IsIdle, deeds_in, deeds_of, events_after, events_before}
use Rattle.start_reach.specs.Laws.{ComparedIsLeftAlone}
use Rattle.start_reach.proofs.CounterLaws.{four}

-- How many nodes of a key stay, and how many go and come.
module _ (k : ℕ) where
  abbrev one : ℕ → ℕ
  one key = cond {A = ℕ} (key == k) 1 0

  abbrev gone_times : Merge StyledNode → ℕ
  gone_times m = weigh_places (times k) (λ _. 0) m

  abbrev come_times : Merge StyledNode → ℕ
  come_times m = weigh_places (λ _. 0) (times k) m

  abbrev stay_times : Merge StyledNode → ℕ
  stay_times End = 0
  stay_times (Kept n c r) = one n.key + (stay_times c + stay_times r)
  stay_times (Turned was n c r) = one n.key + (stay_times c + stay_times r)
  stay_times (Gone n c r) = stay_times r
  stay_times (Come n c r) = stay_times r

  counted-new : (m : Merge StyledNode) → times k (new_of m) ≡ stay_times m + come_times m
  counted-new End = refl
  counted-new (Kept n c r) = omega (arith, counted-new c, counted-new r)
  counted-new (Turned was n c r) = omega (arith, counted-new c, counted-new r)
  counted-new (Gone n c r) = omega (arith, counted-new r)
  counted-new (Come n c r) = omega (arith, counted-new r)

  counted-old : (m : Merge StyledNode) → HasLeaves is_element m → times k (old_of m) ≡ stay_times m + gone_times m
  counted-old End h = refl
  counted-old (Kept n c r) h = omega (arith, counted-old c h.1, counted-old r h.2)
  counted-old (Turned was n c r) h =
      let same : one was.key ≡ one n.key = ap one h.2 in omega (arith, same, counted-old c h.3, counted-old r h.4)
  counted-old (Gone n c r) h = omega (arith, counted-old r h)
  counted-old (Come n c r) h = omega (arith, counted-old r h.2)

module _ (table : List CounterStyle) (counter : Identity) where
  abbrev e : Evaluator StyledNode Told (Option Surroundings)
  e = styled_evaluator table

  abbrev its : List Change → List Event
  its changes = counter_events counter changes

  -- A text does nothing.

  text-before : (key : ℕ) (label : StyledNode) (i : Option Surroundings) → is_element label ≡ false → changes_before_children table (record { key = key; label = label }) i ≡ []
  text-before key (Element element) i h = absurd (cc h)
  text-before key Text None h = refl
  text-before key Text (Some around) h = refl

  text-after : (key : ℕ) (label : StyledNode) (i behind : Option Surroundings) → is_element label ≡ false → changes_after_children table (record { key = key; label = label }) i behind ≡ []
  text-after key (Element element) i behind h = absurd (cc h)
  text-after key Text None behind h = refl
  text-after key Text (Some around) behind h = refl

  -- What a map has of a node.
  module _ (held : ℕ → Option Deeds) where
    own-deeds : (n : Keyed StyledNode) (i behind : Option Surroundings) → is_element n.label ≡ true → Holds held (deeds_of table n i behind)
        → held n.key ≡ Some (record { before_children = changes_before_children table n i; after_children = changes_after_children table n i behind })
    own-deeds n i behind is h =
        let deeds : Deeds = record { before_children = changes_before_children table n i; after_children = changes_after_children table n i behind } in
        All-head (λ (entry : ℕ × Deeds). held entry.0 ≡ Some entry.1) (n.key, deeds) [] (subst (λ b. Holds held (cond b ((n.key, deeds) ∷ []) [])) is h)

    -- so it tells what the node does to the counter
    own-before : (n : Keyed StyledNode) (i behind : Option Surroundings) → is_element n.label ≡ true → Holds held (deeds_of table n i behind)
        → its (changes_before_children table n i) ≡ events_before counter (held n.key)
    own-before n i behind is h = sym (ap (events_before counter) (own-deeds n i behind is h))

    own-after : (n : Keyed StyledNode) (i behind : Option Surroundings) → is_element n.label ≡ true → Holds held (deeds_of table n i behind)
        → its (changes_after_children table n i behind) ≡ events_after counter (held n.key)
    own-after n i behind is h = sym (ap (events_after counter) (own-deeds n i behind is h))

    -- Trees of idle elements do nothing.

    idle-before : (n : Keyed StyledNode) (i behind : Option Surroundings) → Holds held (deeds_of table n i behind) → IsIdle counter (held n.key) → its (changes_before_children table n i) ≡ []
    idle-before n i behind h idle = elim (cases_Bool (is_element n.label)) [
      | inl is ↦ own-before n i behind is h ∙ idle.before_children
      | inr text ↦ ap its (text-before n.key n.label i text)
    ]

    idle-after : (n : Keyed StyledNode) (i behind : Option Surroundings) → Holds held (deeds_of table n i behind) → IsIdle counter (held n.key) → its (changes_after_children table n i behind) ≡ []
    idle-after n i behind h idle = elim (cases_Bool (is_element n.label)) [
      | inl is ↦ own-after n i behind is h ∙ idle.after_children
      | inr text ↦ ap its (text-after n.key n.label i behind text)
    ]

    own-counted : (n : Keyed StyledNode) (x : ℕ) → 0 < cond {A = ℕ} (n.key == n.key) 1 0 + x
    own-counted n x = rw (eq-eqb n.key n.key refl) (omega arith)

    idle-trees : (g : Forest (Keyed StyledNode)) (i : Option Surroundings) → Holds held (deeds_in table i g) → ((k : ℕ) → 0 < times k g → IsIdle counter (held k)) → its (tree_changes table i g) ≡ []
    idle-trees Empty i h idle = refl
    idle-trees (Tree n c r) i h idle =
        let inner = inside_node table n i in
        let x = past_all e inner c in
        let next = past_styled table n i x in
        let below = deeds_in table inner c in
        let here = deeds_of table n i x in
        let beside = deeds_in table next r in
        let entry = λ (entry : ℕ × Deeds). held entry.0 ≡ Some entry.1 in
        let rest = all-right entry below (here ++ beside) h in
        let own = all-left entry here beside rest in
        let mine = idle n.key (own-counted n (times n.key c + times n.key r)) in
        four counter (changes_before_children table n i) [] (tree_changes table inner c) [] (changes_after_children table n i x) [] (tree_changes table next r) []
        (idle-before n i x own mine)
        (idle-trees c inner (all-left entry below (here ++ beside) h) (λ k there. idle k (omega (arith, there))))
        (idle-after n i x own mine)
        (idle-trees r next (all-right entry here beside rest) (λ k there. idle k (omega (arith, there))))

  -- Merges.
  module _ (now was : ℕ → Option Deeds) (alike : (k : ℕ) → AreAlike counter (now k) (was k)) where
    abbrev Entry : (ℕ → Option Deeds) → ℕ × Deeds → Type 0
    Entry held entry = held entry.0 ≡ Some entry.1

    -- a node that stays does the same
    same-node : (was_node n : Keyed StyledNode) (i j x y : Option Surroundings) → was_node.key ≡ n.key → is_element was_node.label ≡ is_element n.label
        → Holds now (deeds_of table n i x) → Holds was (deeds_of table was_node j y) → DoesSame table counter was_node n i j x y
    same-node was_node n i j x y key element hi hj = elim (cases_Bool (is_element n.label)) [
      | inl is ↦
          record {
            before_children = own-before now n i x is hi ∙ (alike n.key).before_children ∙ ap (λ k. events_before counter (was k)) (sym key) ∙ sym (own-before was was_node j y (element ∙ is) hj);
            after_children = own-after now n i x is hi ∙ (alike n.key).after_children ∙ ap (λ k. events_after counter (was k)) (sym key) ∙ sym (own-after was was_node j y (element ∙ is) hj);
          }
      | inr text ↦
          record {
            before_children = ap its (text-before n.key n.label i text) ∙ sym (ap its (text-before was_node.key was_node.label j (element ∙ text)));
            after_children = ap its (text-after n.key n.label i x text) ∙ sym (ap its (text-after was_node.key was_node.label j y (element ∙ text)));
          }
    ]

    -- an element does nothing now where it did nothing
    idle-now : (k : ℕ) → IsIdle counter (was k) → IsIdle counter (now k)
    idle-now k idle =
        record { before_children = (alike k).before_children ∙ idle.before_children; after_children = (alike k).after_children ∙ idle.after_children }

    left-alone : (m : Merge StyledNode) (i j : Option Surroundings) → HasLeaves is_element m → Holds now (deeds_in table i (new_of m)) → Holds was (deeds_in table j (old_of m))
        → ((k : ℕ) → 0 < gone_times k m → IsIdle counter (was k)) → ((k : ℕ) → 0 < come_times k m → IsIdle counter (was k)) → LeavesAlone table counter i j m
    left-alone End i j leaves hi hj gone come = tt
    left-alone (Kept n c r) i j leaves hi hj gone come =
        let inner = inside_node table n i in
        let was_inner = inside_node table n j in
        let x = past_all e inner (new_of c) in
        let y = past_all e was_inner (old_of c) in
        let next = past_styled table n i x in
        let was_next = past_styled table n j y in
        let below = deeds_in table inner (new_of c) in
        let was_below = deeds_in table was_inner (old_of c) in
        let here = deeds_of table n i x in
        let was_here = deeds_of table n j y in
        let beside = deeds_in table next (new_of r) in
        let was_beside = deeds_in table was_next (old_of r) in
        let rest = all-right (Entry now) below (here ++ beside) hi in
        let was_rest = all-right (Entry was) was_below (was_here ++ was_beside) hj in (
          λ entered. same-node n n i j x y refl refl (all-left (Entry now) here beside rest) (all-left (Entry was) was_here was_beside was_rest),
          left-alone c inner was_inner leaves.1 (all-left (Entry now) below (here ++ beside) hi) (all-left (Entry was) was_below (was_here ++ was_beside) hj)
              (λ k there. gone k (omega (arith, there))) (λ k there. come k (omega (arith, there))),
          left-alone r next was_next leaves.2 (all-right (Entry now) here beside rest) (all-right (Entry was) was_here was_beside was_rest)
              (λ k there. gone k (omega (arith, there))) (λ k there. come k (omega (arith, there))),
        )
    left-alone (Turned was_node n c r) i j leaves hi hj gone come =
        let inner = inside_node table n i in
        let was_inner = inside_node table was_node j in
        let x = past_all e inner (new_of c) in
        let y = past_all e was_inner (old_of c) in
        let next = past_styled table n i x in
        let was_next = past_styled table was_node j y in
        let below = deeds_in table inner (new_of c) in
        let was_below = deeds_in table was_inner (old_of c) in
        let here = deeds_of table n i x in
        let was_here = deeds_of table was_node j y in
        let beside = deeds_in table next (new_of r) in
        let was_beside = deeds_in table was_next (old_of r) in
        let rest = all-right (Entry now) below (here ++ beside) hi in
        let was_rest = all-right (Entry was) was_below (was_here ++ was_beside) hj in (
          same-node was_node n i j x y leaves.2 (leaves.0 ∙ sym leaves.1) (all-left (Entry now) here beside rest) (all-left (Entry was) was_here was_beside was_rest),
          left-alone c inner was_inner leaves.3 (all-left (Entry now) below (here ++ beside) hi) (all-left (Entry was) was_below (was_here ++ was_beside) hj)
              (λ k there. gone k (omega (arith, there))) (λ k there. come k (omega (arith, there))),
          left-alone r next was_next leaves.4 (all-right (Entry now) here beside rest) (all-right (Entry was) was_here was_beside was_rest)
              (λ k there. gone k (omega (arith, there))) (λ k there. come k (omega (arith, there))),
        )
    left-alone (Gone n c r) i j leaves hi hj gone come =
        let was_inner = inside_node table n j in
        let y = past_all e was_inner c in
        let was_next = past_styled table n j y in
        let was_below = deeds_in table was_inner c in
        let was_here = deeds_of table n j y in
        let was_beside = deeds_in table was_next (old_of r) in
        let was_rest = all-right (Entry was) was_below (was_here ++ was_beside) hj in
        let own = all-left (Entry was) was_here was_beside was_rest in
        let mine = gone n.key (let some = own-counted was n (times n.key c) in omega (arith, some)) in (
          four counter (changes_before_children table n j) [] (tree_changes table was_inner c) [] (changes_after_children table n j y) [] [] []
              (idle-before was n j y own mine)
              (idle-trees was c was_inner (all-left (Entry was) was_below (was_here ++ was_beside) hj) (λ k there. gone k (omega (arith, there))))
              (idle-after was n j y own mine) refl,
          left-alone r i was_next leaves hi (all-right (Entry was) was_here was_beside was_rest) (λ k there. gone k (omega (arith, there))) (λ k there. come k (omega (arith, there))),
        )
    left-alone (Come n c r) i j leaves hi hj gone come =
        let inner = inside_node table n i in
        let x = past_all e inner c in
        let next = past_styled table n i x in
        let below = deeds_in table inner c in
        let here = deeds_of table n i x in
        let beside = deeds_in table next (new_of r) in
        let rest = all-right (Entry now) below (here ++ beside) hi in
        let own = all-left (Entry now) here beside rest in
        let mine = idle-now n.key (come n.key (let some = own-counted now n (times n.key c) in omega (arith, some))) in (
          four counter (changes_before_children table n i) [] (tree_changes table inner c) [] (changes_after_children table n i x) [] [] []
              (idle-before now n i x own mine)
              (idle-trees now c inner (all-left (Entry now) below (here ++ beside) hi) (λ k there. idle-now k (come k (omega (arith, there)))))
              (idle-after now n i x own mine) refl,
          left-alone r next j leaves.2 (all-right (Entry now) here beside rest) hj (λ k there. gone k (omega (arith, there))) (λ k there. come k (omega (arith, there))),
        )

  -- an element that comes was not there, or goes
  idle-come : (m : Merge StyledNode) → HasDistinctKeys (new_of m) → HasLeaves is_element m → (was : ℕ → Option Deeds) → ((k : ℕ) → times k (old_of m) ≡ 0 → was k ≡ None)
      → ((k : ℕ) → 0 < gone_times k m → IsIdle counter (was k)) → (k : ℕ) → 0 < come_times k m → IsIdle counter (was k)
  idle-come m distinct leaves was others gone k comes = elim (some_or_none (gone_times k m)) [
    | inl none ↦
        let absent : times k (old_of m) ≡ 0 = omega (arith, counted-old k m leaves, counted-new k m, distinct k, none, comes) in
        let nothing = others k absent in
        record { before_children = ap (events_before counter) nothing; after_children = ap (events_after counter) nothing }
    | inr goes ↦ gone k goes
  ]

pub compared_is_left_alone : ComparedIsLeftAlone
compared_is_left_alone table counter handed was_handed merge distinct leaves now was h =
    left-alone table counter now was h.alike merge handed was_handed leaves h.does h.did h.idle (idle-come table counter merge distinct leaves was h.others h.idle)
