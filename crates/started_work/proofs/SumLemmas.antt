-- How many elements the first of two walks goes into, and the sum of the steps of an edit. Throughout, i is what a level is handed, j what
-- it was handed, n a node, c what is under it, r what is after it, g trees, m a merge, w a weight, and k a key.
use Rattle.std.proofs.Common.{◌≡◌, ◌+◌, ◌*◌, ◌≤◌, ◌++◌, ◌∙◌, ℕ, Bool, true, false, cond, List, [], ◌∷◌, Option, Some, refl, sym, ap, arith}
use Rattle.std.specs.Prelude.{filter, flat_map, is_some, sum_by}
use Rattle.std.specs.Option.{option_eq}
use Rattle.std.proofs.lemmas.Bool.{true≢false}
use Rattle.std.proofs.lemmas.List.Elements.{filter-append}
use Rattle.std.proofs.lemmas.List.Sums.{sum_by-append, sum_by-cons}
use Rattle.forest.specs.Forest.{Forest, Tree}
use Rattle.forest.specs.Keys.{Keyed}
use Rattle.plain_types.specs.declared.counter_style.CounterStyle.{CounterStyle}
use Rattle.plain_types.specs.declared.edit.Edit.{Edit}
use Rattle.plain_types.specs.declared.node.Node.{Node}
use Rattle.plain_types.specs.declared.style.Style.{Style}
use Rattle.box_eval.specs.Evaluation.{StyledNode, style_within, styled_trees}
use Rattle.merged_walk.specs.Counts.{other_count}
use Rattle.merged_walk.specs.Evaluators.{Evaluator, input, inputs, past_all}
use Rattle.merged_walk.specs.Merges.{Merge, End, Kept, Turned, Gone, Come, new_of, old_of}
use Rattle.merged_walk.proofs.EntryLaws.{all-left, all-right}
use Rattle.surroundings.specs.declared.surroundings.Surroundings.{Surroundings}
use Rattle.surroundings.specs.declared.told.Told.{Told}
use Rattle.surroundings.specs.StyledEvaluators.{inside_node, past_styled, styled_evaluator}
use Rattle.surroundings.specs.StyledEvaluators.{is_element as is_styled_element}
use Rattle.surroundings.specs.Surroundings.{is_same}
use Rattle.surroundings.proofs.Asking.{past-some}
use Rattle.edit_merge.specs.EditMerges.{is_element}
use Rattle.styled_merge.specs.Stays.{IsUnturned}
use Rattle.styled_merge.specs.StyledMerges.{Starting, Styling, styled_by, styled_merge}
use Rattle.edit_work.specs.Inputs.{differs}
use Rattle.edit_work.specs.KeyedSources.{KeyedSource, child_elements, either, element_key, elements_in, weight}
use Rattle.edit_work.specs.Work.{around_places, differing, placed, walk_work, work}
use Rattle.started_work.proofs.HandedLemmas.{Entry, Has, handed-other, kept-some, styled-element}

-- the sum, in numbers
pub pays : (anew led later_anew come gone places placed differing around walk work first second : ℕ)
    → anew ≤ led + differing → later_anew ≤ led + differing → (led + come + gone) ≤ placed + around → 4 * places ≤ 20 + 2 * (placed + around)
    → (placed + differing + around) ≤ walk → walk ≤ work → first ≤ 9 * anew + 6 * come + 2 * places + 2 → second ≤ 9 * later_anew + 6 * come + 2 * places + 2
    → (first + second + 3 * gone + 4 * work) ≤ 24 * (work + 1)
pays anew led later_anew come gone places placed differing around walk work first second h1 h2 h3 h4 h5 h6 h7 h8 = omega arith

module _ (w : ℕ → ℕ) (heavy : (k : ℕ) → 1 ≤ w k) (differs : ℕ → Bool) where
  -- the elements of trees that differ, weighed
  abbrev pub others : Forest (Keyed Node) → ℕ
  others g = sum_by w (filter differs (elements_in g))

  abbrev own : Keyed Node → ℕ
  own n = sum_by w (filter differs (element_key n))

  others-parts : (n : Keyed Node) (c r : Forest (Keyed Node)) → others (Tree n c r) ≡ own n + (others c + others r)
  others-parts n c r =
      let first = filter differs (element_key n) in
      let below = filter differs (elements_in c) in
      let beside = filter differs (elements_in r) in
      let parts : filter differs (elements_in (Tree n c r)) ≡ first ++ (below ++ beside) =
      filter-append differs (element_key n) (elements_in c ++ elements_in r) ∙ ap (λ keys. first ++ keys) (filter-append differs (elements_in c) (elements_in r)) in
      let sum : others (Tree n c r) ≡ sum_by w (first ++ (below ++ beside)) = ap (sum_by w) parts in
      omega (arith, sum, sum_by-append w first (below ++ beside), sum_by-append w below beside)

  own-heavy : (n : Keyed Node) (b : Bool) → b ≡ true → differs n.key ≡ true → 1 ≤ sum_by w (filter differs (cond b (n.key ∷ []) []))
  own-heavy n false is differ = absurd (true≢false (sym is))
  own-heavy n true is differ = by (differs n.key) differ
    where
      by : (t : Bool) → t ≡ true → 1 ≤ sum_by w (cond t (n.key ∷ []) [])
      by true h = omega (arith, heavy n.key, sum_by-cons w n.key [])
      by false h = absurd (true≢false (sym h))

  one-other : (element same : Bool) (o : ℕ) → (element ≡ true → same ≡ false → 1 ≤ o) → cond {A = ℕ} element (cond same 0 1) 0 ≤ o
  one-other false same o h = omega arith
  one-other true true o h = omega arith
  one-other true false o h = omega (arith, h refl refl)

  module _ (table : List CounterStyle) (old new : Styling) (was_start start : Starting) (now before : ℕ → Option Surroundings)
      (other : (k : ℕ) (a b : Surroundings) → now k ≡ Some a → before k ≡ Some b → is_same a b ≡ false → differs k ≡ true) where
    abbrev e : Evaluator StyledNode Told (Option Surroundings)
    e = styled_evaluator table

    abbrev styled_of : Option Style → Merge Node → Merge StyledNode
    styled_of = styled_merge old new was_start start

    abbrev inner : Option Style → Keyed Node → Option Style
    inner parent n = style_within old was_start parent n.key n.label

    -- elements that are handed something else differ
    pub others-few : (m : Merge Node) (parent : Option Style) (i j : Option Surroundings) → IsUnturned m → is_some i ≡ is_some j
        → Has now (inputs e i (new_of (styled_of parent m))) → Has before (inputs e j (old_of (styled_of parent m))) → other_count e i j (styled_of parent m) ≤ others (new_of m)
    others-few End parent i j unturned some hi hj = omega arith
    others-few (Kept n c r) parent i j unturned some hi hj =
        let was = styled_by old was_start parent n in
        let x = past_all e (inside_node table was i) (new_of (styled_of (inner parent n) c)) in
        let y = past_all e (inside_node table was j) (old_of (styled_of (inner parent n) c)) in
        let inside = inputs e (inside_node table was i) (new_of (styled_of (inner parent n) c)) in
        let was_inside = inputs e (inside_node table was j) (old_of (styled_of (inner parent n) c)) in
        let after = inputs e (past_styled table was i x) (new_of (styled_of parent r)) in
        let was_after = inputs e (past_styled table was j y) (old_of (styled_of parent r)) in
        let rest_i = all-right (Entry now) (input e was i) (inside ++ after) hi in
        let rest_j = all-right (Entry before) (input e was j) (was_inside ++ was_after) hj in
        let mine = one-other (is_styled_element was.label) (option_eq is_same i j) (own n)
        (λ is apart. own-heavy n (is_element n.label) (sym (styled-element old was_start parent n.key n.label) ∙ is)
        (handed-other differs table now before other was i j is some (all-left (Entry now) (input e was i) (inside ++ after) hi) (all-left (Entry before) (input e was j) (was_inside ++ was_after) hj) apart)) in
        omega (
          arith,
          mine,
          others-parts n (new_of c) (new_of r),
          others-few c (inner parent n) (inside_node table was i) (inside_node table was j) unturned.0 (kept-some table was i j some) (all-left (Entry now) inside after rest_i) (all-left (Entry before) was_inside was_after rest_j),
          others-few r parent (past_styled table was i x) (past_styled table was j y) unturned.1 (past-some table was i x ∙ some ∙ sym (past-some table was j y)) (all-right (Entry now) inside after rest_i)
              (all-right (Entry before) was_inside was_after rest_j),
        )
    others-few (Turned was n c r) parent i j unturned some hi hj = absurd unturned.0
    others-few (Gone n c r) parent i j unturned some hi hj =
        let was = styled_by old was_start parent n in
        let children = styled_trees old was_start (inner parent n) c in
        let y = past_all e (inside_node table was j) children in
        let was_inside = inputs e (inside_node table was j) children in
        let was_after = inputs e (past_styled table was j y) (old_of (styled_of parent r)) in
        others-few r parent i (past_styled table was j y) unturned (some ∙ sym (past-some table was j y)) hi
        (all-right (Entry before) was_inside was_after (all-right (Entry before) (input e was j) (was_inside ++ was_after) hj))
    others-few (Come n c r) parent i j unturned some hi hj =
        let it = styled_by new start parent n in
        let children = styled_trees new start (style_within new start parent n.key n.label) c in
        let x = past_all e (inside_node table it i) children in
        let inside = inputs e (inside_node table it i) children in
        let after = inputs e (past_styled table it i x) (new_of (styled_of parent r)) in
        omega (
          arith,
          others-parts n c (new_of r),
          others-few r parent (past_styled table it i x) j unturned (past-some table it i x ∙ some) (all-right (Entry now) inside after (all-right (Entry now) (input e it i) (inside ++ after) hi)) hj,
        )

-- What differs, and what pays for walks, in the work of an edit.

sum-more : (w : ℕ → ℕ) (more : ℕ → List ℕ) (keys : List ℕ) → sum_by w keys ≤ sum_by w (flat_map (λ key. key ∷ more key) keys)
sum-more w more [] = omega arith
sum-more w more (key ∷ keys) =
    omega (
      arith,
      sum_by-cons w key keys,
      sum_by-cons w key (more key ++ flat_map (λ key. key ∷ more key) keys),
      sum_by-append w (more key) (flat_map (λ key. key ∷ more key) keys),
      sum-more w more keys,
    )

module _ (edit : Edit) (before after : KeyedSource) where
  pub differing-few : sum_by (weight before after) (filter (differs before after) (elements_in after.tree)) ≤ sum_by (weight before after) (differing edit before after)
  unfolding differing
  differing-few = sum-more (weight before after) (λ key. either (child_elements before.tree key) (child_elements after.tree key)) (filter (differs before after) (elements_in after.tree))

  pub walk-least :
      let w : ℕ → ℕ = weight before after in
      (sum_by w (placed edit before after) + sum_by w (differing edit before after) + sum_by w (around_places edit before after)) ≤ walk_work edit before after
  unfolding walk_work
  walk-least =
      let w = weight before after in
      let one = placed edit before after in
      let two = differing edit before after in
      let three = around_places edit before after in
      omega (arith, sum_by-append w one (two ++ three), sum_by-append w two three)

  pub walk-within : walk_work edit before after ≤ work edit before after
  unfolding work
  walk-within = omega arith
