-- What a merge with turned elements enters: what it enters without them, and elements that differ. Throughout, i is what a level is
-- handed, j what it was handed, n a node, c what is under it, r what is after it, g trees, m a merge, and k a key.
use Rattle.std.proofs.Common.{◌≡◌, ◌==◌, ◌<◌, ◌||◌, ◌&&◌, ◌⊎◌, ◌++◌, ◌∙◌, ℕ, Bool, true, false, cond, List, [], ◌∷◌, Option, Some, refl, sym, ap, subst, inl, inr, arith, eq-eqb, eqb-true}
use Rattle.std.specs.Prelude.{is_some, not}
use Rattle.std.specs.Option.{option_eq}
use Rattle.std.proofs.lemmas.Bool.{and_parts, cases_Bool, or_cases, or_from, or_parts, true≢false}
use Rattle.forest.specs.Forest.{Forest, Empty, Tree}
use Rattle.forest.specs.Keys.{Keyed, times}
use Rattle.plain_types.specs.declared.counter_style.CounterStyle.{CounterStyle}
use Rattle.plain_types.specs.declared.node.Node.{Node}
use Rattle.plain_types.specs.declared.style.Style.{Style}
use Rattle.box_eval.specs.Evaluation.{StyledNode, style_within, styled_trees}
use Rattle.merged_walk.specs.Evaluators.{Evaluator, input, inputs, past_all}
use Rattle.merged_walk.specs.Merges.{Merge, End, Kept, Turned, Gone, Come, has_place, new_of, old_of}
use Rattle.merged_walk.proofs.EntryLaws.{all-left, all-right}
use Rattle.surroundings.specs.declared.surroundings.Surroundings.{Surroundings}
use Rattle.surroundings.specs.declared.told.Told.{Told}
use Rattle.surroundings.specs.MergedLevels.{HasLeaves}
use Rattle.surroundings.specs.StyledEvaluators.{inside_node, past_styled, styled_evaluator}
use Rattle.surroundings.specs.Surroundings.{is_same}
use Rattle.surroundings.proofs.Asking.{past-some}
use Rattle.edit_merge.specs.EditMerges.{is_element}
use Rattle.styled_merge.specs.Stays.{IsUnturned}
use Rattle.styled_merge.specs.StyledMerges.{Starting, Styling, styled_by, styled_merge}
use Rattle.styled_merge.proofs.ShapeLaws.{has-shape}
use Rattle.edit_work.specs.KeyedSources.{element_key, elements_in, is_among}
use Rattle.reference_reach.specs.MergedNodes.{entered_elements}
use Rattle.start_reach.specs.CounterChanges.{OfEachSkipped, is_entered}
use Rattle.start_reach.specs.TurnedElements.{turned_where}
use Rattle.start_reach.proofs.TurnedLaws.{at_node}
use Rattle.kept_elements.proofs.KeptTold.{left_among, right_among}
use Rattle.started_work.proofs.HandedLemmas.{Entry, Has, either-part, handed-other, kept-some, styled-element}

-- Styles change no key.
module _ (k : ℕ) where
  times-trees : (style : Styling) (start : Starting) (g : Forest (Keyed Node)) (parent : Option Style) → times k (styled_trees style start parent g) ≡ times k g
  times-trees style start Empty parent = refl
  times-trees style start (Tree n c r) parent =
      omega (arith, times-trees style start c (style_within style start parent n.key n.label), times-trees style start r parent)

  times-new : (old new : Styling) (was_start start : Starting) (m : Merge Node) (parent : Option Style) → times k (new_of (styled_merge old new was_start start parent m)) ≡ times k (new_of m)
  times-new old new was_start start End parent = refl
  times-new old new was_start start (Kept n c r) parent =
      omega (arith, times-new old new was_start start c (style_within old was_start parent n.key n.label), times-new old new was_start start r parent)
  times-new old new was_start start (Turned was n c r) parent =
      omega (arith, times-new old new was_start start c (style_within old was_start parent was.key was.label), times-new old new was_start start r parent)
  times-new old new was_start start (Gone n c r) parent = times-new old new was_start start r parent
  times-new old new was_start start (Come n c r) parent =
      omega (arith, times-trees new start c (style_within new start parent n.key n.label), times-new old new was_start start r parent)

both-weaker : {A B C D : Type 0} → (A → B) → (C → D) → A ⊎ C → B ⊎ D
both-weaker f g (inl a) = inl (f a)
both-weaker f g (inr c) = inr (g c)

own-key : (q k : ℕ) → is_among (q ∷ []) k ≡ true → (q == k) ≡ true
own-key q k there = elim (or_cases (q == k) false there) [ inl same ↦ same | inr never ↦ absurd (true≢false (sym never)) ]

element-among : (n : Keyed Node) (rest : List ℕ) (b : Bool) → b ≡ true → is_among (cond b (n.key ∷ []) [] ++ rest) n.key ≡ true
element-among n rest true is = ap (λ t. t || is_among rest n.key) (eq-eqb n.key n.key refl)
element-among n rest false is = absurd (true≢false (sym is))

module _ (p : ℕ → Bool) where
  abbrev turned : Merge Node → Merge Node
  turned m = turned_where is_element p m

  -- where the only places are elements that are turned, one of these is there
  found-turned : (m : Merge Node) → has_place (turned m) ≡ true → has_place m ≡ false → (k : ℕ) × (p k ≡ true) × (0 < times k (new_of m))
  found-turned End there none = absurd (cc there)
  found-turned (Kept n c r) there none =
      let parts = or_parts (has_place c) (has_place r) none in
      elim (cases_Bool (is_element n.label && p n.key)) [
        | inl is ↦ (n.key, (and_parts (is_element n.label) (p n.key) is).1, rw (eq-eqb n.key n.key refl) (omega arith))
        | inr not_it ↦
            let either : (has_place (turned c) || has_place (turned r)) ≡ true = sym (ap (λ b. has_place (at_node is_element b n (turned c) (turned r))) not_it) ∙ there in
            elim (or_cases (has_place (turned c)) (has_place (turned r)) either) [
              | inl below ↦ let k = found-turned c below parts.0 in (k.0, k.1, omega (arith, k.2))
              | inr beside ↦ let k = found-turned r beside parts.1 in (k.0, k.1, omega (arith, k.2))
            ]
      ]
  found-turned (Turned was n c r) there none = absurd (cc none)
  found-turned (Gone n c r) there none = absurd (cc none)
  found-turned (Come n c r) there none = absurd (cc none)

  module _ (differs : ℕ → Bool) where
    -- an element of the new document that differs
    abbrev pub OtherIn : Merge Node → ℕ → Type 0
    OtherIn m k = (differs k ≡ true) × (is_among (elements_in (new_of m)) k ≡ true)

    abbrev pub Enters : Merge Node → ℕ → Type 0
    Enters m k = is_among (entered_elements (turned m)) k ≡ true → (is_among (entered_elements m) k ≡ true) ⊎ OtherIn m k

    -- the node itself
    other-own : (k : ℕ) (n : Keyed Node) (c r : Merge Node) → (is_element n.label ≡ true) × (differs n.key ≡ true) → (n.key == k) ≡ true → OtherIn (Kept n c r) k
    other-own k n c r its same =
        let rest : List ℕ = elements_in (new_of c) ++ elements_in (new_of r) in
        subst (λ q. (differs q ≡ true) × (is_among (element_key n ++ rest) q ≡ true)) (eqb-true n.key k same) (its.1, element-among n rest (is_element n.label) its.0)

    own-place : (k : ℕ) (n : Keyed Node) (c r : Merge Node) (t s : Bool) → (t ≡ true → s ≡ false → (is_element n.label ≡ true) × (differs n.key ≡ true)) → is_among (cond t (n.key ∷ []) []) k ≡ true
        → (is_among (cond s (n.key ∷ []) [] ++ (entered_elements c ++ entered_elements r)) k ≡ true) ⊎ OtherIn (Kept n c r) k
    own-place k n c r true true above there = inl (left_among k (n.key ∷ []) (entered_elements c ++ entered_elements r) there)
    own-place k n c r true false above there = inr (other-own k n c r (above refl refl) (own-key n.key k there))
    own-place k n c r false s above there = absurd (true≢false (sym there))

    -- what is under it and after it
    later-entered : (k : ℕ) (n : Keyed Node) (c r : Merge Node) → Enters c k → Enters r k → is_among (entered_elements (turned c) ++ entered_elements (turned r)) k ≡ true
        → (is_among (entered_elements (Kept n c r)) k ≡ true) ⊎ OtherIn (Kept n c r) k
    later-entered k n c r below beside there =
        let own : List ℕ = cond (has_place c) (n.key ∷ []) [] in
        let under = entered_elements c in
        let after = entered_elements r in
        let under_all = elements_in (new_of c) in
        let after_all = elements_in (new_of r) in
        elim (either-part k (entered_elements (turned c)) (entered_elements (turned r)) there) [
          | inl in_c ↦
              both-weaker (λ h. right_among k own (under ++ after) (left_among k under after h))
              (λ (h : OtherIn c k). (h.0, right_among k (element_key n) (under_all ++ after_all) (left_among k under_all after_all h.1))) (below in_c)
          | inr in_r ↦
              both-weaker (λ h. right_among k own (under ++ after) (right_among k under after h))
              (λ (h : OtherIn r k). (h.0, right_among k (element_key n) (under_all ++ after_all) (right_among k under_all after_all h.1))) (beside in_r)
        ]

    node-enters : (k : ℕ) (b : Bool) (n : Keyed Node) (c r : Merge Node) → (b ≡ true → (is_element n.label ≡ true) × (differs n.key ≡ true))
        → (has_place (turned c) ≡ true → has_place c ≡ false → (is_element n.label ≡ true) × (differs n.key ≡ true)) → Enters c k → Enters r k
        → is_among (entered_elements (at_node is_element b n (turned c) (turned r))) k ≡ true → (is_among (entered_elements (Kept n c r)) k ≡ true) ⊎ OtherIn (Kept n c r) k
    node-enters k true n c r its above below beside there = elim (either-part k (n.key ∷ []) (entered_elements (turned c) ++ entered_elements (turned r)) there) [
      | inl own ↦ inr (other-own k n c r (its refl) (own-key n.key k own))
      | inr rest ↦ later-entered k n c r below beside rest
    ]
    node-enters k false n c r its above below beside there =
        elim (either-part k (cond (has_place (turned c)) (n.key ∷ []) []) (entered_elements (turned c) ++ entered_elements (turned r)) there) [
          | inl own ↦ own-place k n c r (has_place (turned c)) (has_place c) above own
          | inr rest ↦ later-entered k n c r below beside rest
        ]

module _ (differs : ℕ → Bool) (p : ℕ → Bool) (table : List CounterStyle) (old new : Styling) (was_start start : Starting) (now before : ℕ → Option Surroundings)
    (other : (k : ℕ) (a b : Surroundings) → now k ≡ Some a → before k ≡ Some b → is_same a b ≡ false → differs k ≡ true)
    (Same : ℕ → Type 0) (never : (k : ℕ) → p k ≡ true → Same k → ⊥) (they : (k : ℕ) → p k ≡ true → differs k ≡ true) where
  abbrev e : Evaluator StyledNode Told (Option Surroundings)
  e = styled_evaluator table

  abbrev styled_of : Option Style → Merge Node → Merge StyledNode
  styled_of = styled_merge old new was_start start

  abbrev inner : Option Style → Keyed Node → Option Style
  inner parent n = style_within old was_start parent n.key n.label

  -- only elements have something under them
  above-element : (n : Keyed Node) (c : Merge Node) → (is_element n.label ≡ false → c ≡ End) → has_place (turned_where is_element p c) ≡ true → is_element n.label ≡ true
  above-element n c text there = elim (cases_Bool (is_element n.label)) [
    | inl is ↦ is
    | inr other_node ↦ absurd (let none : true ≡ false = sym there ∙ ap (λ c. has_place (turned_where is_element p c)) (text other_node) in cc)
  ]

  -- a node above a turned element is handed something else
  above-differs : (n : Keyed Node) (c : Merge Node) (parent : Option Style) (i j : Option Surroundings) → is_element n.label ≡ true → is_some i ≡ is_some j
      → (is_entered i j (styled_of (inner parent n) c) ≡ false → (k : ℕ) → 0 < times k (new_of (styled_of (inner parent n) c)) → Same k)
      → Has now (input e (styled_by old was_start parent n) i) → Has before (input e (styled_by old was_start parent n) j)
      → has_place (turned_where is_element p c) ≡ true → has_place c ≡ false → differs n.key ≡ true
  above-differs n c parent i j element some skipped hi hj there none = elim (cases_Bool (option_eq is_same i j)) [
    | inl same ↦
        let one = found-turned p c there none in
        let place : has_place (styled_of (inner parent n) c) ≡ false = (has-shape old new was_start start (inner parent n) c).has_place ∙ none in
        let passed : is_entered i j (styled_of (inner parent n) c) ≡ false = or_from (has_place (styled_of (inner parent n) c)) (not (option_eq is_same i j)) place (ap not same) in
        let counted : 0 < times one.0 (new_of (styled_of (inner parent n) c)) = omega (arith, times-new one.0 old new was_start start c (inner parent n), one.2) in
        absurd (never one.0 one.1 (skipped passed one.0 counted))
    | inr apart ↦ handed-other differs table now before other (styled_by old was_start parent n) i j (styled-element old was_start parent n.key n.label ∙ element) some hi hj apart
  ]

  pub entered-turned : (m : Merge Node) (parent : Option Style) (i j : Option Surroundings) → IsUnturned m → HasLeaves is_element m → is_some i ≡ is_some j
      → OfEachSkipped table Same i j (styled_of parent m) → Has now (inputs e i (new_of (styled_of parent m))) → Has before (inputs e j (old_of (styled_of parent m)))
      → (k : ℕ) → Enters p differs m k
  entered-turned End parent i j unturned leaves some skipped hi hj k there = absurd (true≢false (sym there))
  entered-turned (Kept n c r) parent i j unturned leaves some skipped hi hj k there =
      let was = styled_by old was_start parent n in
      let x = past_all e (inside_node table was i) (new_of (styled_of (inner parent n) c)) in
      let y = past_all e (inside_node table was j) (old_of (styled_of (inner parent n) c)) in
      let inside = inputs e (inside_node table was i) (new_of (styled_of (inner parent n) c)) in
      let was_inside = inputs e (inside_node table was j) (old_of (styled_of (inner parent n) c)) in
      let after = inputs e (past_styled table was i x) (new_of (styled_of parent r)) in
      let was_after = inputs e (past_styled table was j y) (old_of (styled_of parent r)) in
      let rest_i = all-right (Entry now) (input e was i) (inside ++ after) hi in
      let rest_j = all-right (Entry before) (input e was j) (was_inside ++ was_after) hj in
      node-enters p differs k (is_element n.label && p n.key) n c r
      (λ test. (let parts = and_parts (is_element n.label) (p n.key) test in (parts.0, they n.key parts.1)))
      (λ place none.
      (let element = above-element n c leaves.0 place in (
        element,
        above-differs n c parent i j element some skipped.0 (all-left (Entry now) (input e was i) (inside ++ after) hi) (all-left (Entry before) (input e was j) (was_inside ++ was_after) hj) place none,
      )))
      (entered-turned c (inner parent n) (inside_node table was i) (inside_node table was j) unturned.0 leaves.1 (kept-some table was i j some) skipped.1
      (all-left (Entry now) inside after rest_i) (all-left (Entry before) was_inside was_after rest_j) k)
      (entered-turned r parent (past_styled table was i x) (past_styled table was j y) unturned.1 leaves.2 (past-some table was i x ∙ some ∙ sym (past-some table was j y)) skipped.2
      (all-right (Entry now) inside after rest_i) (all-right (Entry before) was_inside was_after rest_j) k)
      there
  entered-turned (Turned was n c r) parent i j unturned leaves some skipped hi hj k there = absurd unturned.0
  entered-turned (Gone n c r) parent i j unturned leaves some skipped hi hj k there =
      let was = styled_by old was_start parent n in
      let children = styled_trees old was_start (inner parent n) c in
      let y = past_all e (inside_node table was j) children in
      let was_inside = inputs e (inside_node table was j) children in
      let was_after = inputs e (past_styled table was j y) (old_of (styled_of parent r)) in
      entered-turned r parent i (past_styled table was j y) unturned leaves (some ∙ sym (past-some table was j y)) skipped hi
      (all-right (Entry before) was_inside was_after (all-right (Entry before) (input e was j) (was_inside ++ was_after) hj)) k there
  entered-turned (Come n c r) parent i j unturned leaves some skipped hi hj k there =
      let it = styled_by new start parent n in
      let children = styled_trees new start (style_within new start parent n.key n.label) c in
      let x = past_all e (inside_node table it i) children in
      let inside = inputs e (inside_node table it i) children in
      let after = inputs e (past_styled table it i x) (new_of (styled_of parent r)) in
      let comes = elements_in (Tree n c Empty) in
      elim (either-part k comes (entered_elements (turned_where is_element p r)) there) [
        | inl come ↦ inl (left_among k comes (entered_elements r) come)
        | inr later ↦
            both-weaker (λ h. right_among k comes (entered_elements r) h)
            (λ (h : OtherIn p differs r k). (h.0, right_among k (element_key n) (elements_in c ++ elements_in (new_of r)) (right_among k (elements_in c) (elements_in (new_of r)) h.1)))
            (entered-turned r parent (past_styled table it i x) j unturned leaves.2 (past-some table it i x ∙ some) skipped
            (all-right (Entry now) inside after (all-right (Entry now) (input e it i) (inside ++ after) hi)) hj k later)
      ]
