-- What is read is what the grammar says.
use Rattle.std.proofs.Common.{◌≡◌, ℕ, zero, suc, List, [], ◌∷◌, Option, Some, None, ◌⊎◌, inl, inr, refl, sym, ap, ◌∙◌, subst}
use Rattle.plain_types.specs.declared.selector.Compound.{Compound}
use Rattle.plain_types.specs.declared.selector.Selector.{Selector}
use Rattle.plain_types.specs.declared.selector.Simple.{Simple}
use Rattle.plain_types.specs.declared.selector_parts.Join.{Join}
use Rattle.plain_types.specs.declared.selector_parts.Join.TheVariants as join
use Rattle.plain_types.specs.declared.selector_parts.PseudoElement.{PseudoElement}
use Rattle.plain_types.specs.declared.selector_parts.PseudoElement.TheVariants as pseudo
use Rattle.reading.specs.Reading.{◌then◌, ◌otherwise◌, only, run_at}
use Rattle.reading.proofs.Following.{run_Run}
use Rattle.reading.proofs.Runs.{Run, stop, more, then_some, chosen}
use Rattle.css_tokens.specs.declared.token.Token.{Token}
use Rattle.css_tokens.specs.TokenReading.{is_whitespace, function_at, held_at, past_delimiter, past_close, skip_whitespace}
use Rattle.selectors.specs.Parts.{spaced_at, after_comma_at, comma_list_at}
use Rattle.selectors.specs.AnPlusB.{an_plus_b_at}
use Rattle.selectors.specs.Simples.{type_at, id_at, class_at, attribute_at, nth_class, nth}
use Rattle.selectors.specs.Compounds.{plain_class_at, nesting_class, nested, type_part, some_compound, with_subclasses, class_function_at, pseudo_class_at, compound, subclass_at, compound_at, choices_at}
use Rattle.selectors.specs.Selectors.{combinator_of, combinator_at, descendant_at, pseudo_element_at, lone_at, Step, step_to, step_at, outer_compound_at, sequence, no_compound, and_no_compound, with_pseudo, complex_end, sequence_end, selector_at, selector_list}
use Rattle.selectors.specs.Grammar.{IsSubclass, an_id, a_class, an_attribute, a_plain_class, an_nth_class, a_nesting_class, AreSubclasses, no_subclass, one_subclass, IsCompound, with_type, without_type, AreChoices, last_choice, next_choice, IsCombinator, written, descendant, AreSteps, no_step, one_step, IsSelector, of_elements, of_pseudo_elements, of_lone_ones, of_any_ones, AreSelectors, last_selector, next_selector}
use Rattle.selectors.proofs.Shortening.{subclass_takes, choices_within, compound_within, after_comma_takes, selector_within, step_takes}

some_is : {A : Type 0} (a b : A) → Some a ≡ Some b → a ≡ b
some_is a b e = cc

either : {A : Type 0} (x y : Option A) (z : A) → (x otherwise y) ≡ Some z → (x ≡ Some z) ⊎ (y ≡ Some z)
either (Some a) y z e = inl e
either None y z e = inr e

abbrev some_simple : Simple × List Token → Option (Simple × List Token)
some_simple x = Some x

abbrev some_join : Join × List Token → Option (Join × List Token)
some_join x = Some x

abbrev some_selector : Selector × List Token → Option (Selector × List Token)
some_selector x = Some x

-- ---- comma lists

module _ {X : Type 0} (item_at : List Token → Option (X × List Token)) where
  spaced_parts : (ts : List Token) (x : X × List Token) → spaced_at item_at ts ≡ Some x → (y : X × List Token) × (item_at (skip_whitespace ts) ≡ Some y) × (x ≡ (y.0, skip_whitespace y.1))
  spaced_parts ts x e = let p = then_some (item_at (skip_whitespace ts)) _ x e in (p.0, p.1, sym (some_is (p.0.0, skip_whitespace p.0.1) x p.2))

  comma_parts : (ts : List Token) (x : X × List Token) → after_comma_at item_at ts ≡ Some x → (next : List Token) × (past_delimiter 44 ts ≡ Some next) × (spaced_at item_at next ≡ Some x)
  unfolding after_comma_at
  comma_parts ts x e = then_some (past_delimiter 44 ts) _ x e

-- ---- simple and compound selectors

module _ (text : List ℕ) where
  -- over what is known of the lists that are nested
  module _ (levels : ℕ) (choices_are : (ts : List Token) (x : List Compound × List Token) → choices_at text levels ts ≡ Some x → (inner : ℕ) × (levels ≡ suc inner) × AreChoices text inner ts x.0 x.1) where
    function_sound : (ts after : List Token) (name : List ℕ × List Token) (x : Simple × List Token) → past_delimiter 58 ts ≡ Some after → function_at after ≡ Some name → class_function_at text (choices_at text levels) name.0 name.1 ≡ Some x
        → IsSubclass text levels ts x.0 x.1
    unfolding class_function_at
    function_sound ts after name x e f g = elim (either (nth_class name.0 then λ siblings. an_plus_b_at text name.1 then λ value. some_simple (nth siblings value.0, value.1)) (nesting_class name.0 then λ nesting. choices_at text levels name.1 then λ choices. some_simple (nested nesting choices.0, choices.1)) x g) [
      | inl h ↦ (
          let siblings = then_some (nth_class name.0) _ x h in
          let value = then_some (an_plus_b_at text name.1) _ x siblings.2 in
          subst (λ (y : Simple × List Token). IsSubclass text levels ts y.0 y.1) (some_is (nth siblings.0 value.0.0, value.0.1) x value.2)
          (an_nth_class levels ts after name.0 name.1 siblings.0 value.0.0 value.0.1 e f siblings.1 value.1)
          )
      | inr h ↦ (
          let nesting = then_some (nesting_class name.0) _ x h in
          let choices = then_some (choices_at text levels name.1) _ x nesting.2 in
          let inner = choices_are name.1 choices.0 choices.1 in
          subst (λ (y : Simple × List Token). IsSubclass text levels ts y.0 y.1) (some_is (nested nesting.0 choices.0.0, choices.0.1) x choices.2)
          (subst (λ (n : ℕ). IsSubclass text n ts (nested nesting.0 choices.0.0) choices.0.1) (sym inner.1) (a_nesting_class inner.0 ts after name.0 name.1 nesting.0 choices.0.0 choices.0.1 e f nesting.1 inner.2))
          )
    ]

    pseudo_class_sound : (ts : List Token) (x : Simple × List Token) → pseudo_class_at text (choices_at text levels) ts ≡ Some x → IsSubclass text levels ts x.0 x.1
    unfolding pseudo_class_at
    pseudo_class_sound ts x e =
        let colon = then_some (past_delimiter 58 ts) _ x e in
        elim (either (plain_class_at colon.0) _ x colon.2) [
          | inl h ↦ a_plain_class levels ts colon.0 x.0 x.1 colon.1 h
          | inr h ↦ (let name = then_some (function_at colon.0) _ x h in function_sound ts colon.0 name.0 x colon.1 name.1 name.2)
        ]

    subclass_sound : (ts : List Token) (x : Simple × List Token) → subclass_at text (choices_at text levels) ts ≡ Some x → IsSubclass text levels ts x.0 x.1
    unfolding subclass_at
    subclass_sound ts x e = elim (either (id_at ts) _ x e) [
      | inl h ↦ an_id levels ts x.0 x.1 h
      | inr e ↦ elim (either (class_at ts) _ x e) [
        | inl h ↦ a_class levels ts x.0 x.1 h
        | inr e ↦ elim (either (attribute_at ts) _ x e) [
          | inl h ↦ an_attribute levels ts x.0 x.1 h
          | inr h ↦ pseudo_class_sound ts x h
        ]
      ]
    ]

    subclasses_sound : {ts : List Token} {simples : List Simple} {rest : List Token} → Run (subclass_at text (choices_at text levels)) ts simples rest → AreSubclasses text levels ts simples rest
    subclasses_sound {ts} (stop e) = no_subclass levels ts
    subclasses_sound {ts} {rest = rest} (more s mid {xs = simples} e r) = one_subclass levels ts s mid simples rest (subclass_sound ts (s, mid) e) (subclasses_sound r)

    untyped_sound : {ts : List Token} {simples : List Simple} {rest : List Token} (x : Compound × List Token) → Run (subclass_at text (choices_at text levels)) ts simples rest → some_compound (simples, rest) ≡ Some x → IsCompound text levels ts x.0 x.1
    untyped_sound x (stop e) h = absurd cc
    untyped_sound {ts} {rest = rest} x (more s mid {xs = simples} e r) h =
        subst (λ (y : Compound × List Token). IsCompound text levels ts y.0 y.1) (some_is (compound (s ∷ simples), rest) x h)
        (without_type levels ts s mid simples rest (subclass_sound ts (s, mid) e) (subclasses_sound r))

    compound_sound : (ts : List Token) (x : Compound × List Token) → compound_at text (choices_at text levels) ts ≡ Some x → IsCompound text levels ts x.0 x.1
    unfolding compound_at
    compound_sound ts x e = go (type_at ts) refl e
      where
        run : (us : List Token) → Run (subclass_at text (choices_at text levels)) us (run_at (subclass_at text (choices_at text levels)) us).0 (run_at (subclass_at text (choices_at text levels)) us).1
        run us = run_Run (subclass_at text (choices_at text levels)) (subclass_takes text (choices_at text levels) (choices_within text levels)) us

        go : (o : Option (Simple × List Token)) → type_at ts ≡ o → some_compound (with_subclasses text (choices_at text levels) (type_part o ts)) ≡ Some x → IsCompound text levels ts x.0 x.1
        go None w h = untyped_sound x (run ts) h
        go (Some t) w h =
            let rest = (run_at (subclass_at text (choices_at text levels)) t.1).1 in
            let simples = (run_at (subclass_at text (choices_at text levels)) t.1).0 in
            subst (λ (y : Compound × List Token). IsCompound text levels ts y.0 y.1) (some_is (compound (t.0 ∷ simples), rest) x h)
            (with_type levels ts t.0 t.1 simples rest w (subclasses_sound (run t.1)))

    -- the first choice and those after commas
    choices_follow : {mid : List Token} {others : List Compound} {end : List Token} (ts rest : List Token) (y : Compound × List Token) → Run (after_comma_at (compound_at text (choices_at text levels))) mid others end
        → compound_at text (choices_at text levels) (skip_whitespace ts) ≡ Some y → mid ≡ skip_whitespace y.1 → past_close 41 end ≡ Some rest → AreChoices text levels ts (y.0 ∷ others) rest
    choices_follow ts rest y (stop e) c m h = last_choice levels ts y.0 y.1 rest (compound_sound (skip_whitespace ts) y c) (rw (← m) h)
    choices_follow {mid} ts rest y (more x after {xs = others} e r) c m h =
        let next = comma_parts (compound_at text (choices_at text levels)) mid (x, after) e in
        let item = spaced_parts (compound_at text (choices_at text levels)) next.0 (x, after) next.2 in
        let x_is : x ≡ item.0.0 = ap (λ (z : Compound × List Token). z.0) item.2 in
        let after_is : after ≡ skip_whitespace item.0.1 = ap (λ (z : Compound × List Token). z.1) item.2 in
        let tail = choices_follow next.0 rest item.0 r item.1 after_is h in
        next_choice levels ts y.0 y.1 next.0 (x ∷ others) rest (compound_sound (skip_whitespace ts) y c) (rw (← m) next.1)
        (subst (λ (z : Compound). AreChoices text levels next.0 (z ∷ others) rest) (sym x_is) tail)

  choices_sound : (levels : ℕ) (ts : List Token) (x : List Compound × List Token) → choices_at text levels ts ≡ Some x → (inner : ℕ) × (levels ≡ suc inner) × AreChoices text inner ts x.0 x.1
  unfolding choices_at
  choices_sound zero ts x e = absurd cc
  choices_sound (suc inner) ts x e =
      let item = compound_at text (choices_at text inner) in
      let list = then_some (comma_list_at item ts) _ x e in
      let close = then_some (past_close 41 list.0.1) _ x list.2 in
      let first = then_some (spaced_at item ts) _ list.0 list.1 in
      let parts = spaced_parts item ts first.0 first.1 in
      let run = run_Run (after_comma_at item) (after_comma_takes item (compound_within text (choices_at text inner) (choices_within text inner))) first.0.1 in
      let first_is : first.0.0 ≡ parts.0.0 = ap (λ (z : Compound × List Token). z.0) parts.2 in
      let mid_is : first.0.1 ≡ skip_whitespace parts.0.1 = ap (λ (z : Compound × List Token). z.1) parts.2 in
      let all_is = some_is (first.0.0 ∷ (run_at (after_comma_at item) first.0.1).0, (run_at (after_comma_at item) first.0.1).1) list.0 first.2 in
      let end_is : (run_at (after_comma_at item) first.0.1).1 ≡ list.0.1 = ap (λ (z : List Compound × List Token). z.1) all_is in
      let choices_are : first.0.0 ∷ (run_at (after_comma_at item) first.0.1).0 ≡ list.0.0 = ap (λ (z : List Compound × List Token). z.0) all_is in
      let tail = choices_follow inner (choices_sound inner) ts close.0 parts.0 run parts.1 mid_is (rw end_is close.1) in
      let named = subst (λ (z : Compound). AreChoices text inner ts (z ∷ (run_at (after_comma_at item) first.0.1).0) close.0) (sym first_is) tail in
      let read = subst (λ (z : List Compound). AreChoices text inner ts z close.0) choices_are named in
      (inner, refl, subst (λ (z : List Compound × List Token). AreChoices text inner ts z.0 z.1) (some_is (list.0.0, close.0) x close.2) read)

  -- ---- complex selectors

  outer_sound : (ts : List Token) (x : Compound × List Token) → outer_compound_at text ts ≡ Some x → IsCompound text 16 ts x.0 x.1
  outer_sound ts x e = compound_sound 16 (choices_sound 16) ts x e

  combinator_sound : (ts : List Token) (x : Join × List Token) → combinator_at ts ≡ Some x → IsCombinator ts x.0 x.1
  combinator_sound ts x e = elim (either (held_at combinator_of (skip_whitespace ts) then λ join. some_join (join.0, skip_whitespace join.1)) (descendant_at ts) x e) [
    | inl h ↦ (
        let sign = then_some (held_at combinator_of (skip_whitespace ts)) _ x h in
        subst (λ (y : Join × List Token). IsCombinator ts y.0 y.1) (some_is (sign.0.0, skip_whitespace sign.0.1) x sign.2) (written ts sign.0.0 sign.0.1 sign.1)
        )
    | inr h ↦ blank ts h
  ]
    where
      blank : (ts : List Token) → descendant_at ts ≡ Some x → IsCombinator ts x.0 x.1
      blank [] h = absurd cc
      blank (t ∷ us) h = elim (chosen (is_whitespace t.kind) _ _ _ h) [
        | inl holds ↦ subst (λ (y : Join × List Token). IsCombinator (t ∷ us) y.0 y.1) (some_is (join.Descendant, skip_whitespace us) x holds.1) (descendant t us holds.0)
        | inr fails ↦ absurd (let never = fails.1 in cc)
      ]

  steps_sound : {ts : List Token} {steps : List Step} {rest : List Token} → Run (step_at text) ts steps rest → AreSteps text ts steps rest
  unfolding step_at
  steps_sound {ts} (stop e) = no_step ts
  steps_sound {ts} {rest = rest} (more s mid {xs = steps} e r) =
      let join = then_some (combinator_at ts) _ (s, mid) e in
      let compound = then_some (outer_compound_at text join.0.1) _ (s, mid) join.2 in
      let is = some_is (step_to join.0.0 compound.0.0, compound.0.1) (s, mid) compound.2 in
      let step_is : step_to join.0.0 compound.0.0 ≡ s = ap (λ (z : Step × List Token). z.0) is in
      let mid_is : compound.0.1 ≡ mid = ap (λ (z : Step × List Token). z.1) is in
      subst (λ (z : Step). AreSteps text ts (z ∷ steps) rest) step_is
      (one_step ts join.0.0 join.0.1 compound.0.0 compound.0.1 steps rest (combinator_sound ts join.0 join.1) (outer_sound join.0.1 compound.0 compound.1)
      (subst (λ (z : List Token). AreSteps text z steps rest) (sym mid_is) (steps_sound r)))

  end_sound : (ts : List Token) (first : Compound) (mid : List Token) (steps : List Step) (end : List Token) (x : Selector × List Token) → IsCompound text 16 ts first mid → AreSteps text mid steps end → complex_end (sequence first steps) end ≡ Some x
      → IsSelector text ts x.0 x.1
  unfolding complex_end
  end_sound ts first mid steps end x d ds e = elim (either (pseudo_element_at end then λ p. some_selector (with_pseudo (sequence first steps) p.0, p.1)) _ x e) [
    | inl h ↦ (
        let p = then_some (pseudo_element_at end) _ x h in
        subst (λ (y : Selector × List Token). IsSelector text ts y.0 y.1) (some_is (with_pseudo (sequence first steps) p.0.0, p.0.1) x p.2)
        (of_pseudo_elements ts first mid steps end p.0.0 p.0.1 d ds p.1)
        )
    | inr h ↦ elim (either (lone_at end then λ lone. some_selector (with_pseudo (and_no_compound (sequence first steps) lone.0.0) lone.0.1, lone.1)) (some_selector (with_pseudo (sequence first steps) pseudo.Own, end)) x h) [
      | inl h ↦ (
          let lone = then_some (lone_at end) _ x h in
          let join = then_some (combinator_at end) _ lone.0 lone.1 in
          let p = then_some (pseudo_element_at join.0.1) _ lone.0 join.2 in
          let is = some_is ((join.0.0, p.0.0), p.0.1) lone.0 p.2 in
          subst (λ (y : Selector × List Token). IsSelector text ts y.0 y.1) (some_is (with_pseudo (and_no_compound (sequence first steps) lone.0.0.0) lone.0.0.1, lone.0.1) x lone.2)
          (subst (λ (y : (Join × PseudoElement) × List Token). IsSelector text ts (with_pseudo (and_no_compound (sequence first steps) y.0.0) y.0.1) y.1) is
          (of_lone_ones ts first mid steps end join.0.0 join.0.1 p.0.0 p.0.1 d ds (combinator_sound end join.0 join.1) p.1))
          )
      | inr h ↦ subst (λ (y : Selector × List Token). IsSelector text ts y.0 y.1) (some_is (with_pseudo (sequence first steps) pseudo.Own, end) x h) (of_elements ts first mid steps end d ds)
    ]
  ]

  selector_sound : (ts : List Token) (x : Selector × List Token) → selector_at text ts ≡ Some x → IsSelector text ts x.0 x.1
  unfolding selector_at
  selector_sound ts x e = elim (either (pseudo_element_at ts then λ p. some_selector (with_pseudo (sequence no_compound []) p.0, p.1)) (outer_compound_at text ts then λ first. sequence_end first.0 (run_at (step_at text) first.1)) x e) [
    | inl h ↦ (
        let p = then_some (pseudo_element_at ts) _ x h in
        subst (λ (y : Selector × List Token). IsSelector text ts y.0 y.1) (some_is (with_pseudo (sequence no_compound []) p.0.0, p.0.1) x p.2) (of_any_ones ts p.0.0 p.0.1 p.1)
        )
    | inr h ↦ (
        let first = then_some (outer_compound_at text ts) _ x h in
        end_sound ts first.0.0 first.0.1 (run_at (step_at text) first.0.1).0 (run_at (step_at text) first.0.1).1 x (outer_sound ts first.0 first.1) (steps_sound (run_Run (step_at text) (step_takes text) first.0.1)) first.2
        )
  ]

  -- ---- lists of selectors

  selectors_follow : {mid : List Token} {others : List Selector} {end : List Token} (ts : List Token) (y : Selector × List Token) → Run (after_comma_at (selector_at text)) mid others end
      → selector_at text (skip_whitespace ts) ≡ Some y → mid ≡ skip_whitespace y.1 → end ≡ [] → AreSelectors text ts (y.0 ∷ others)
  selectors_follow ts y (stop e) s m h = last_selector ts y.0 y.1 (selector_sound (skip_whitespace ts) y s) (sym m ∙ h)
  selectors_follow {mid} ts y (more x after {xs = others} e r) s m h =
      let next = comma_parts (selector_at text) mid (x, after) e in
      let item = spaced_parts (selector_at text) next.0 (x, after) next.2 in
      let x_is : x ≡ item.0.0 = ap (λ (z : Selector × List Token). z.0) item.2 in
      let after_is : after ≡ skip_whitespace item.0.1 = ap (λ (z : Selector × List Token). z.1) item.2 in
      let tail = selectors_follow next.0 item.0 r item.1 after_is h in
      next_selector ts y.0 y.1 next.0 (x ∷ others) (selector_sound (skip_whitespace ts) y s) (rw (← m) next.1)
      (subst (λ (z : Selector). AreSelectors text next.0 (z ∷ others)) (sym x_is) tail)

  only_parts : (selectors : List Selector) (rest : List Token) (x : List Selector) → only selectors rest ≡ Some x → (selectors ≡ x) × (rest ≡ [])
  only_parts selectors [] x e = (some_is selectors x e, refl)
  only_parts selectors (t ∷ us) x e = absurd cc

  pub selectors_sound : (ts : List Token) (selectors : List Selector) → selector_list text ts ≡ Some selectors → AreSelectors text ts selectors
  unfolding selector_list
  selectors_sound ts selectors e =
      let list = then_some (comma_list_at (selector_at text) ts) _ selectors e in
      let whole = only_parts list.0.0 list.0.1 selectors list.2 in
      let first = then_some (spaced_at (selector_at text) ts) _ list.0 list.1 in
      let parts = spaced_parts (selector_at text) ts first.0 first.1 in
      let run = run_Run (after_comma_at (selector_at text)) (after_comma_takes (selector_at text) (selector_within text)) first.0.1 in
      let first_is : first.0.0 ≡ parts.0.0 = ap (λ (z : Selector × List Token). z.0) parts.2 in
      let mid_is : first.0.1 ≡ skip_whitespace parts.0.1 = ap (λ (z : Selector × List Token). z.1) parts.2 in
      let all_is = some_is (first.0.0 ∷ (run_at (after_comma_at (selector_at text)) first.0.1).0, (run_at (after_comma_at (selector_at text)) first.0.1).1) list.0 first.2 in
      let end_is : (run_at (after_comma_at (selector_at text)) first.0.1).1 ≡ list.0.1 = ap (λ (z : List Selector × List Token). z.1) all_is in
      let selectors_are : first.0.0 ∷ (run_at (after_comma_at (selector_at text)) first.0.1).0 ≡ list.0.0 = ap (λ (z : List Selector × List Token). z.0) all_is in
      let tail = selectors_follow ts parts.0 run parts.1 mid_is (end_is ∙ whole.1) in
      let named = subst (λ (z : Selector). AreSelectors text ts (z ∷ (run_at (after_comma_at (selector_at text)) first.0.1).0)) (sym first_is) tail in
      subst (λ (z : List Selector). AreSelectors text ts z) (selectors_are ∙ whole.0) named
