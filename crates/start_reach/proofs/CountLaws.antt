-- How many elements that stay are evaluated anew where elements are turned: those that are led to without them, and those that
-- differ. Throughout, i is what a level is handed, j what it was handed, n a node, c what is under it, r what is after it, m a
-- merge, and k a key.
use Rattle.std.proofs.Common.{◌≡◌, ◌==◌, ◌+◌, ◌≤◌, ◌||◌, ◌&&◌, ℕ, Bool, true, false, cond, List, [], ◌∷◌, ◌++◌, Option, Some, None, refl, sym, ap, subst, ◌∙◌, inl, inr, arith, eqb-true}
use Rattle.std.specs.Prelude.{All, is_some, not}
use Rattle.std.specs.Option.{option_eq}
use Rattle.std.proofs.lemmas.Bool.{and_parts, cases_Bool, or_cases}
use Rattle.std.proofs.lemmas.List.Elements.{All-head, All-tail}
use Rattle.forest.specs.Forest.{Forest, Tree}
use Rattle.forest.specs.Keys.{Keyed}
use Rattle.plain_types.specs.declared.counter_style.CounterStyle.{CounterStyle}
use Rattle.plain_types.specs.declared.node.Node.{Node}
use Rattle.plain_types.specs.declared.node.Node.TheVariants as node
use Rattle.plain_types.specs.declared.style.ElementStyle.{ElementStyle}
use Rattle.plain_types.specs.declared.style.Style.{Style}
use Rattle.box_eval.specs.Boxes.{generates_box}
use Rattle.box_eval.specs.Evaluation.{StyledNode, is_boxed, style_within, styled_node, styled_trees}
use Rattle.merged_walk.specs.Counts.{anew_count, led_count}
use Rattle.merged_walk.specs.Evaluators.{Evaluator, input, inputs, past_all, weigh_elements}
use Rattle.merged_walk.specs.Merges.{Merge, End, Kept, Turned, Gone, Come, has_place, new_of, old_of}
use Rattle.merged_walk.proofs.EntryLaws.{all-left, all-right}
use Rattle.surroundings.specs.declared.surroundings.Surroundings.{Surroundings}
use Rattle.surroundings.specs.declared.told.Told.{Told}
use Rattle.surroundings.specs.StyledEvaluators.{inside_node, past_styled, styled_evaluator}
use Rattle.surroundings.specs.StyledEvaluators.{is_element as is_styled_element}
use Rattle.surroundings.specs.Surroundings.{is_same}
use Rattle.surroundings.proofs.Asking.{inside-some, past-some}
use Rattle.edit_merge.specs.EditMerges.{is_element}
use Rattle.styled_merge.specs.Stays.{HasSameStyle, OfEachKept, OfElement}
use Rattle.styled_merge.specs.StyledMerges.{Starting, Styling, styled_by, styled_merge}
use Rattle.styled_merge.proofs.ShapeLaws.{has-shape}
use Rattle.edit_work.specs.KeyedSources.{is_among}
use Rattle.start_reach.specs.TurnedElements.{turned_where}
use Rattle.start_reach.proofs.TurnedLaws.{at_node}

-- a map has what elements are handed, where something is
abbrev pub Has : (ℕ → Option Surroundings) → List (ℕ × Option Surroundings) → Type 0
Has held entries = All (λ (x : ℕ × Option Surroundings). (a : Surroundings) → x.1 ≡ Some a → held x.0 ≡ Some a) entries

abbrev pub Entry : (ℕ → Option Surroundings) → ℕ × Option Surroundings → Type 0
Entry held x = (a : Surroundings) → x.1 ≡ Some a → held x.0 ≡ Some a

-- one of the keys that are listed
pub listed : (P : ℕ → Type 0) (keys : List ℕ) (k : ℕ) → All P keys → is_among keys k ≡ true → P k
listed P [] k all it = absurd (cc it)
listed P (key ∷ keys) k all it = elim (or_cases (key == k) (is_among keys k) it) [
  | inl here ↦ subst P (eqb-true key k here) (All-head P key keys all)
  | inr later ↦ listed P keys k (All-tail P key keys all) later
]

module _ (w : ℕ → ℕ) (heavy : (k : ℕ) → 1 ≤ w k) (differs : ℕ → Bool) where
  -- the elements of trees that differ, weighed
  abbrev pub others : Forest (Keyed Node) → ℕ
  others g = weigh_elements is_element (λ k. cond (differs k) (w k) 0) g

  abbrev own : Keyed Node → ℕ
  own n = cond (is_element n.label) (cond (differs n.key) (w n.key) 0) 0

  own-heavy : (n : Keyed Node) → is_element n.label ≡ true → differs n.key ≡ true → 1 ≤ own n
  own-heavy n element differ = rw (element, differ) (heavy n.key)

  module _ (p : ℕ → Bool) where
    abbrev turned : Merge Node → Merge Node
    turned m = turned_where is_element p m

    -- each element that is turned differs, and each that is led to for those alone
    abbrev pub LedDiffer : Merge Node → Type 0
    LedDiffer End = Unit {0}
    LedDiffer (Kept n c r) =
        ((is_element n.label && p n.key) ≡ true → differs n.key ≡ true)
        × (has_place (turned c) ≡ true → has_place c ≡ false → (is_element n.label ≡ true) × (differs n.key ≡ true))
        × LedDiffer c
        × LedDiffer r
    LedDiffer (Turned was n c r) = ⊥
    LedDiffer (Gone n c r) = LedDiffer r
    LedDiffer (Come n c r) = LedDiffer r

    led-one : (x y : Bool) (o : ℕ) → (x ≡ true → y ≡ false → 1 ≤ o) → cond {A = ℕ} x 1 0 ≤ cond {A = ℕ} y 1 0 + o
    led-one true true o h = omega arith
    led-one true false o h = omega (arith, h refl refl)
    led-one false y o h = omega arith

    pub led-few : (m : Merge Node) → LedDiffer m → led_count (turned m) ≤ led_count m + others (new_of m)
    led-few End h = omega arith
    led-few (Kept n c r) h = elim (cases_Bool (is_element n.label && p n.key)) [
      | inl is ↦
          let same : led_count (turned (Kept n c r)) ≡ 1 + (led_count (turned c) + led_count (turned r)) = ap (λ b. led_count (at_node is_element b n (turned c) (turned r))) is in
          omega (arith, same, own-heavy n (and_parts (is_element n.label) (p n.key) is).0 (h.0 is), led-few c h.2, led-few r h.3)
      | inr not ↦
          let same : led_count (turned (Kept n c r)) ≡ cond {A = ℕ} (has_place (turned c)) 1 0 + (led_count (turned c) + led_count (turned r)) =
          ap (λ b. led_count (at_node is_element b n (turned c) (turned r))) not in
          omega (
            arith,
            same,
            led-one (has_place (turned c)) (has_place c) (own n) (λ now before. (let its = h.1 now before in own-heavy n its.0 its.1)),
            led-few c h.2,
            led-few r h.3,
          )
    ]
    led-few (Turned was n c r) h = absurd h
    led-few (Gone n c r) h = led-few r h
    led-few (Come n c r) h = omega (arith, led-few r h)

    -- The walk with starts.

    module _ (table : List CounterStyle) (old new : Styling) (was_start start : Starting) (now before : ℕ → Option Surroundings)
        (other : (k : ℕ) (a b : Surroundings) → now k ≡ Some a → before k ≡ Some b → is_same a b ≡ false → differs k ≡ true) where
      abbrev e : Evaluator StyledNode Told (Option Surroundings)
      e = styled_evaluator table

      abbrev styled_of : Option Style → Merge Node → Merge StyledNode
      styled_of = styled_merge old new was_start start

      abbrev inner : Option Style → Keyed Node → Option Style
      inner parent n = style_within old was_start parent n.key n.label

      -- an element that is handed two things has both under its key
      own-entry : (held : ℕ → Option Surroundings) (n : Keyed StyledNode) (a : Surroundings) → is_styled_element n.label ≡ true → Has held (input e n (Some a)) → held n.key ≡ Some a
      own-entry held n a is h = All-head (Entry held) (n.key, Some a) [] (subst (λ b. Has held (cond b ((n.key, Some a) ∷ []) [])) is h) a refl

      -- so it differs, where these are not the same
      pub handed-other : (n : Keyed StyledNode) (i j : Option Surroundings) → is_styled_element n.label ≡ true → is_some i ≡ is_some j → Has now (input e n i) → Has before (input e n j)
          → option_eq is_same i j ≡ false → differs n.key ≡ true
      handed-other n None None element some hi hj apart = absurd (cc apart)
      handed-other n None (Some b) element some hi hj apart = absurd (cc some)
      handed-other n (Some a) None element some hi hj apart = absurd (cc some)
      handed-other n (Some a) (Some b) element some hi hj apart = other n.key a b (own-entry now n a element hi) (own-entry before n b element hj) apart

      -- a styled node is an element where it is without styles
      pub styled-element : (style : Styling) (given : Starting) (parent : Option Style) (k : ℕ) (l : Node) → is_styled_element (styled_node style given parent k l) ≡ is_element l
      styled-element style given parent k (node.Element name attrs) = refl
      styled-element style given parent k (node.Text characters) = refl

      -- it has a box before where it has one now
      same-boxed : (b : Bool) (parent : Option Style) (k : ℕ) (l : Node) → OfElement (HasSameStyle old new) k l → is_boxed b (styled_node old was_start parent k l) ≡ is_boxed b (styled_node new start parent k l)
      same-boxed b parent k (node.Text characters) same = refl
      same-boxed b parent k (node.Element name attrs) same = ap (λ (s : ElementStyle). b && generates_box s) (same parent)

      turned-some : (n : Keyed Node) (parent : Option Style) (i j : Option Surroundings) → OfElement (HasSameStyle old new) n.key n.label → is_some i ≡ is_some j
          → is_some (inside_node table (styled_by new start parent n) i) ≡ is_some (inside_node table (styled_by old was_start parent n) j)
      turned-some n parent i j same some =
          inside-some table n.key (styled_node new start parent n.key n.label) i
          ∙ ap (λ b. is_boxed b (styled_node new start parent n.key n.label)) some
          ∙ sym (same-boxed (is_some j) parent n.key n.label same)
          ∙ sym (inside-some table n.key (styled_node old was_start parent n.key n.label) j)

      pub kept-some : (n : Keyed StyledNode) (i j : Option Surroundings) → is_some i ≡ is_some j → is_some (inside_node table n i) ≡ is_some (inside_node table n j)
      kept-some n i j some = inside-some table n.key n.label i ∙ ap (λ b. is_boxed b n.label) some ∙ sym (inside-some table n.key n.label j)

      anew-one : (element place same was_place : Bool) (o : ℕ) → (element ≡ true → place ≡ true → was_place ≡ false → 1 ≤ o) → (element ≡ true → same ≡ false → 1 ≤ o)
          → cond {A = ℕ} element (cond (place || not same) 1 0) 0 ≤ cond {A = ℕ} was_place 1 0 + o
      anew-one false place same was_place o led handed = omega arith
      anew-one true true same true o led handed = omega arith
      anew-one true true same false o led handed = omega (arith, led refl refl refl)
      anew-one true false true was_place o led handed = omega arith
      anew-one true false false was_place o led handed = omega (arith, handed refl refl)

      abbrev Few : Option Style → Merge Node → Type 0
      Few parent m =
          (i j : Option Surroundings) → is_some i ≡ is_some j → Has now (inputs e i (new_of (styled_of parent (turned m)))) → Has before (inputs e j (old_of (styled_of parent (turned m))))
          → anew_count e i j (styled_of parent (turned m)) ≤ led_count m + others (new_of m)

      -- a node that stays, turned or not
      anew-node : (b : Bool) (n : Keyed Node) (c r : Merge Node) (parent : Option Style) (i j : Option Surroundings) → OfElement (HasSameStyle old new) n.key n.label
          → (b ≡ true → 1 ≤ own n) → (has_place (turned c) ≡ true → has_place c ≡ false → 1 ≤ own n)
          → Few (inner parent n) c → Few parent r → is_some i ≡ is_some j
          → Has now (inputs e i (new_of (styled_of parent (at_node is_element b n (turned c) (turned r))))) → Has before (inputs e j (old_of (styled_of parent (at_node is_element b n (turned c) (turned r)))))
          → anew_count e i j (styled_of parent (at_node is_element b n (turned c) (turned r))) ≤ led_count (Kept n c r) + others (Tree n (new_of c) (new_of r))
      anew-node true n c r parent i j same its led below beside some hi hj =
          let it = styled_by new start parent n in
          let was = styled_by old was_start parent n in
          let below_of = styled_of (inner parent n) (turned c) in
          let beside_of = styled_of parent (turned r) in
          let x = past_all e (inside_node table it i) (new_of below_of) in
          let y = past_all e (inside_node table was j) (old_of below_of) in
          let inside = inputs e (inside_node table it i) (new_of below_of) in
          let was_inside = inputs e (inside_node table was j) (old_of below_of) in
          let after = inputs e (past_styled table it i x) (new_of beside_of) in
          let was_after = inputs e (past_styled table was j y) (old_of beside_of) in
          let rest_i = all-right (Entry now) (input e it i) (inside ++ after) hi in
          let rest_j = all-right (Entry before) (input e was j) (was_inside ++ was_after) hj in
          omega (
            arith,
            its refl,
            below (inside_node table it i) (inside_node table was j) (turned-some n parent i j same some) (all-left (Entry now) inside after rest_i) (all-left (Entry before) was_inside was_after rest_j),
            beside (past_styled table it i x) (past_styled table was j y) (past-some table it i x ∙ some ∙ sym (past-some table was j y)) (all-right (Entry now) inside after rest_i) (all-right (Entry before) was_inside was_after rest_j),
          )
      anew-node false n c r parent i j same its led below beside some hi hj =
          let was = styled_by old was_start parent n in
          let below_of = styled_of (inner parent n) (turned c) in
          let x = past_all e (inside_node table was i) (new_of below_of) in
          let y = past_all e (inside_node table was j) (old_of below_of) in
          let inside = inputs e (inside_node table was i) (new_of below_of) in
          let was_inside = inputs e (inside_node table was j) (old_of below_of) in
          let after = inputs e (past_styled table was i x) (new_of (styled_of parent (turned r))) in
          let was_after = inputs e (past_styled table was j y) (old_of (styled_of parent (turned r))) in
          let rest_i = all-right (Entry now) (input e was i) (inside ++ after) hi in
          let rest_j = all-right (Entry before) (input e was j) (was_inside ++ was_after) hj in
          let place : has_place below_of ≡ has_place (turned c) = (has-shape old new was_start start (inner parent n) (turned c)).has_place in
          let element = styled-element old was_start parent n.key n.label in
          let mine = anew-one (is_styled_element was.label) (has_place below_of) (option_eq is_same i j) (has_place c) (own n)
          (λ is now_place. led (sym place ∙ now_place))
          (λ is apart. own-heavy n (sym element ∙ is) (handed-other was i j is some (all-left (Entry now) (input e was i) (inside ++ after) hi) (all-left (Entry before) (input e was j) (was_inside ++ was_after) hj) apart)) in
          omega (
            arith,
            mine,
            below (inside_node table was i) (inside_node table was j) (kept-some was i j some) (all-left (Entry now) inside after rest_i) (all-left (Entry before) was_inside was_after rest_j),
            beside (past_styled table was i x) (past_styled table was j y) (past-some table was i x ∙ some ∙ sym (past-some table was j y)) (all-right (Entry now) inside after rest_i) (all-right (Entry before) was_inside was_after rest_j),
          )

      pub anew-few : (m : Merge Node) (parent : Option Style) → LedDiffer m → OfEachKept (HasSameStyle old new) m → Few parent m
      anew-few End parent led styles i j some hi hj = omega arith
      anew-few (Kept n c r) parent led styles i j some hi hj =
          anew-node (is_element n.label && p n.key) n c r parent i j styles.0
          (λ is. own-heavy n (and_parts (is_element n.label) (p n.key) is).0 (led.0 is))
          (λ now_place was_place. (let its = led.1 now_place was_place in own-heavy n its.0 its.1))
          (anew-few c (inner parent n) led.2 styles.1) (anew-few r parent led.3 styles.2) some hi hj
      anew-few (Turned was n c r) parent led styles i j some hi hj = absurd led
      anew-few (Gone n c r) parent led styles i j some hi hj =
          let was = styled_by old was_start parent n in
          let children = styled_trees old was_start (inner parent n) c in
          let y = past_all e (inside_node table was j) children in
          let was_inside = inputs e (inside_node table was j) children in
          let was_after = inputs e (past_styled table was j y) (old_of (styled_of parent (turned r))) in
          anew-few r parent led styles i (past_styled table was j y) (some ∙ sym (past-some table was j y)) hi
          (all-right (Entry before) was_inside was_after (all-right (Entry before) (input e was j) (was_inside ++ was_after) hj))
      anew-few (Come n c r) parent led styles i j some hi hj =
          let it = styled_by new start parent n in
          let children = styled_trees new start (style_within new start parent n.key n.label) c in
          let x = past_all e (inside_node table it i) children in
          let inside = inputs e (inside_node table it i) children in
          let after = inputs e (past_styled table it i x) (new_of (styled_of parent (turned r))) in
          omega (
            arith,
            anew-few r parent led styles (past_styled table it i x) j (past-some table it i x ∙ some)
                (all-right (Entry now) inside after (all-right (Entry now) (input e it i) (inside ++ after) hi)) hj,
          )
