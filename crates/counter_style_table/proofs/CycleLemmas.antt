-- Cycles of `extends`, by places, and the equations that finished styles obey.
use Rattle.std.proofs.Common.{◌≡◌, ◌+◌, ◌∷◌, ◌==◌, ◌||◌, ◌<◌, ◌≤◌, ℕ, zero, suc, List, [], Bool, true, false, cond, Option, Some, None, nat_eq, refl, sym, ap, subst, ◌∙◌, arith, inl, inr}
use Rattle.std.specs.List.{range_with_len}
use Rattle.std.specs.Option.{option_and_then, option_map_or}
use Rattle.std.proofs.lemmas.Bool.{cases_Bool, cases_eq, eq-eqb, eqb-true, or_cases, or_left, or_right, both_ways, false_from_ne_true}
use Rattle.std.proofs.lemmas.List.FromFn.{length-range_with_len}
use Rattle.plain_types.specs.declared.counter_style.CounterStyle.{CounterStyle}
use Rattle.plain_types.specs.Table.{decimal_style}
use Rattle.css_definitions.proofs.Chains.{cases_option, is_met, unmet, unmet-falls, unmet-nil, by_turns, by_turns-by_met, goes}
use Rattle.counter_style_table.specs.Extends.{led, OnCycle, leads, finished_within}

pub none_some : {A : Type 0} {a : A} → None ≡ Some a → ⊥
none_some e = cc

module _ (base : ℕ → Option ℕ) where
  pub then_some : (found : Option ℕ) → option_and_then (λ p. Some p) found ≡ found
  then_some None = refl
  then_some (Some p) = refl

  -- one step more at the end is one more at the start
  pub led_more : (steps place other : ℕ) → led base steps place ≡ Some other → led base (suc steps) place ≡ base other
  led_more zero place other e = let at : place ≡ other = cc in rw at (then_some (base other))
  led_more (suc steps) place other e = elim (cases_option (base place)) [
    | inl n ↦ absurd (none_some (rw n at e))
    | inr (next, s) ↦ rw s (led_more steps next other (rw s at e))
  ]

  -- what a place on a cycle extends is on it too
  pub base_on_cycle : (place other : ℕ) → base place ≡ Some other → OnCycle base place → OnCycle base other
  base_on_cycle place other e o = record { steps = o.steps; back = led_more o.steps other place (rw e at o.back) ∙ e }

  -- a set that holds what each of its places extends holds all that they lead to
  pub leads_within : (Holds : ℕ → Type 0) → ((p q : ℕ) → Holds p → base p ≡ Some q → Holds q) → (steps place other : ℕ) → Holds place → led base steps place ≡ Some other → Holds other
  leads_within Holds closed zero place other h e = let at : place ≡ other = cc in subst Holds at h
  leads_within Holds closed (suc steps) place other h e = elim (cases_option (base place)) [
    | inl n ↦ absurd (none_some (rw n at e))
    | inr (next, s) ↦ leads_within Holds closed steps next other (closed place next h s) (rw s at e)
  ]

  -- a place outside such a set that extends one inside is on no cycle
  pub outside : (Holds : ℕ → Type 0) → ((p q : ℕ) → Holds p → base p ≡ Some q → Holds q) → (place other : ℕ) → base place ≡ Some other → Holds other → (Holds place → ⊥) → OnCycle base place → ⊥
  outside Holds closed place other e h out o = out (leads_within Holds closed o.steps other place h (rw e at o.back))

  -- a place that extends one on no cycle is on none
  pub below : (place other : ℕ) → base place ≡ Some other → (OnCycle base other → ⊥) → OnCycle base place → ⊥
  below place other e n o = n (base_on_cycle place other e o)

  -- Cycles by steps, and by the test.

  leads_led : (steps from to : ℕ) → leads base steps from to ≡ true → (n : ℕ) × (led base (suc n) from ≡ Some to)
  leads_led zero from to h = absurd (both_ways _ refl h)
  leads_led (suc steps) from to h = elim (cases_option (base from)) [
    | inl n ↦ let no : false ≡ true = sym (ap (λ b. option_map_or (λ next. (next == to) || leads base steps next to) b false) n) ∙ h in absurd (cc)
    | inr (next, e) ↦
        let test : ((next == to) || leads base steps next to) ≡ true = sym (ap (λ b. option_map_or (λ other. (other == to) || leads base steps other to) b false) e) ∙ h in
        elim (or_cases (next == to) (leads base steps next to) test) [
          | inl same ↦ (0, ap (λ b. option_and_then (led base 0) b) e ∙ ap Some (eqb-true next to same))
          | inr further ↦ let rest = leads_led steps next to further in (suc rest.0, ap (λ b. option_and_then (led base (suc rest.0)) b) e ∙ rest.1)
        ]
  ]

  pub on_cycle_from_test : (steps place : ℕ) → leads base steps place place ≡ true → OnCycle base place
  on_cycle_from_test steps place h = let found = leads_led steps place place h in record { steps = found.0; back = found.1 }

  led_leads : (steps m from to : ℕ) → suc steps ≤ m → led base (suc steps) from ≡ Some to → leads base m from to ≡ true
  led_leads steps zero from to h e = absurd (omega arith)
  led_leads zero (suc m) from to h e = elim (cases_option (base from)) [
    | inl n ↦ absurd (none_some (sym (ap (λ b. option_and_then (led base 0) b) n) ∙ e))
    | inr (next, f) ↦
        let there : led base 0 next ≡ Some to = sym (ap (λ b. option_and_then (led base 0) b) f) ∙ e in
        let same : next ≡ to = cc in
        ap (λ b. option_map_or (λ other. (other == to) || leads base m other to) b false) f ∙ or_left (next == to) (leads base m next to) (eq-eqb next to same)
  ]
  led_leads (suc steps) (suc m) from to h e = elim (cases_option (base from)) [
    | inl n ↦ absurd (none_some (sym (ap (λ b. option_and_then (led base (suc steps)) b) n) ∙ e))
    | inr (next, f) ↦
        ap (λ b. option_map_or (λ other. (other == to) || leads base m other to) b false) f
        ∙ or_right (next == to) (leads base m next to) (led_leads steps m next to (omega arith) (sym (ap (λ b. option_and_then (led base (suc steps)) b) f) ∙ e))
  ]

  -- the test is a chain that answers where it comes to the place
  attempt : ℕ → ℕ → Option Bool
  attempt to place = goes (base place) (λ next. cond (next == to) (Some true) None) None

  leads_by_turns : (m from to : ℕ) → leads base m from to ≡ by_turns (attempt to) base false m from
  unfolding attempt
  leads_by_turns zero from to = refl
  leads_by_turns (suc m) from to = elim (cases_option (base from)) [
    | inl e ↦ rw e refl
    | inr (next, e) ↦ elim (cases_Bool (next == to)) [
      | inl h ↦ rw (e, h) refl
      | inr h ↦ rw (e, h) (leads_by_turns m next to)
    ]
  ]

  module _ (count : ℕ) (within : (p q : ℕ) → base p ≡ Some q → q < count) where
    numbered : (a n q : ℕ) → a ≤ q → q < a + n → is_met nat_eq (range_with_len a n) q ≡ true
    numbered a zero q h k = absurd (omega arith)
    numbered a (suc n) q h k = elim (cases_eq a q) [
      | inl e ↦ or_left (nat_eq a q) (is_met nat_eq (range_with_len (a + 1) n) q) (eq-eqb a q e)
      | inr e ↦ or_right (nat_eq a q) (is_met nat_eq (range_with_len (a + 1) n) q) (numbered (a + 1) n q (omega arith) (omega arith))
    ]

    -- more steps than there are places change nothing
    pub leads_enough : (m from to : ℕ) → from < count → count ≤ m → leads base m from to ≡ leads base count from to
    leads_enough m from to h k =
        let chain = by_turns-by_met nat_eq (λ a b e. eqb-true a b e) (λ a. eq-eqb a a refl) (attempt to) base false (range_with_len 0 count) (λ p q e. numbered 0 count q (omega arith) (omega (arith, within p q e))) count in
        leads_by_turns m from to
        ∙ chain m from (numbered 0 count from (omega arith) (omega arith)) (omega (arith, length-range_with_len 0 count)) (omega (arith, length-range_with_len 0 count))
        ∙ sym (chain count from (numbered 0 count from (omega arith) (omega arith)) (omega (arith, length-range_with_len 0 count)) (omega (arith, length-range_with_len 0 count)))
        ∙ sym (leads_by_turns count from to)

    pub test_from_on_cycle : (place : ℕ) → place < count → OnCycle base place → leads base count place place ≡ true
    test_from_on_cycle place h o =
        sym (leads_enough (suc o.steps + count) place place h (omega arith)) ∙ led_leads o.steps (suc o.steps + count) place place (omega arith) o.back

    -- The equations of finished styles. That so many styles in a row are enough is part of them.
    module _ (own : ℕ → CounterStyle) (over : ℕ → CounterStyle → CounterStyle) where
      items : List ℕ
      items = range_with_len 0 count

      listed : (q : ℕ) → q < count → is_met nat_eq items q ≡ true
      unfolding items
      listed q h = numbered 0 count q (omega arith) (omega arith)

      unmet-items : unmet nat_eq (λ a b e. eqb-true a b e) (λ a. eq-eqb a a refl) [] items ≡ count
      unfolding items
      unmet-items = unmet-nil nat_eq (λ a b e. eqb-true a b e) (λ a. eq-eqb a a refl) items ∙ length-range_with_len 0 count

      abbrev left : List ℕ → ℕ
      left met = unmet nat_eq (λ a b e. eqb-true a b e) (λ a. eq-eqb a a refl) met items

      left-falls : (met : List ℕ) (p : ℕ) → is_met nat_eq met p ≡ false → p < count → left (p ∷ met) < left met
      left-falls met p new h = unmet-falls nat_eq (λ a b e. eqb-true a b e) (λ a. eq-eqb a a refl) met items p new (listed p h)

      abbrev built : ℕ → ℕ → CounterStyle
      built styles place = finished_within base own over count styles place

      -- each of these places leads to this one
      abbrev LeadTo : List ℕ → ℕ → Type 0
      LeadTo met p = (x : ℕ) → is_met nat_eq met x ≡ true → (steps : ℕ) × (led base (suc steps) x ≡ Some p)

      one_step : (p q : ℕ) → base p ≡ Some q → led base 1 p ≡ Some q
      one_step p q e = ap (λ b. option_and_then (led base 0) b) e

      comes_back : (met : List ℕ) (p q : ℕ) → LeadTo met p → base p ≡ Some q → is_met nat_eq (p ∷ met) q ≡ true → OnCycle base p
      comes_back met p q to e h = elim (or_cases (nat_eq p q) (is_met nat_eq met q) h) [
        | inl same ↦ record { steps = 0; back = one_step p q e ∙ ap Some (sym (eqb-true p q same)) }
        | inr there ↦ let found = to q there in record { steps = suc found.0; back = ap (λ b. option_and_then (led base (suc found.0)) b) e ∙ found.1 }
      ]

      leads_on : (met : List ℕ) (p q : ℕ) → LeadTo met p → base p ≡ Some q → LeadTo (p ∷ met) q
      leads_on met p q to e x h = elim (or_cases (nat_eq p x) (is_met nat_eq met x) h) [
        | inl same ↦ (0, ap (led base 1) (sym (eqb-true p x same)) ∙ one_step p q e)
        | inr there ↦ let found = to x there in (suc found.0, led_more (suc found.0) x p found.1 ∙ e)
      ]

      none_leads : (p : ℕ) → LeadTo [] p
      none_leads p x h = absurd (both_ways _ refl h)

      same_within : (turns m : ℕ) (met : List ℕ) (p : ℕ) → LeadTo met p → is_met nat_eq met p ≡ false → p < count → left met ≤ turns → left met ≤ m → built turns p ≡ built m p
      same_within zero m met p to new h a b = absurd (omega (arith, left-falls met p new h))
      same_within (suc turns) zero met p to new h a b = absurd (omega (arith, left-falls met p new h))
      same_within (suc turns) (suc m) met p to new h a b = elim (cases_option (base p)) [
        | inl e ↦ rw e refl
        | inr (q, e) ↦ elim (cases_Bool (leads base count p p)) [
          | inl on ↦ rw (e, on) refl
          | inr off ↦
              let fresh : is_met nat_eq (p ∷ met) q ≡ false = false_from_ne_true _ (λ i. both_ways _ off (test_from_on_cycle p h (comes_back met p q to e i))) in
              let fell = left-falls met p new h in
              rw (e, off) (ap (over p) (same_within turns m (p ∷ met) q (leads_on met p q to e) fresh (within p q e) (omega (arith, fell)) (omega (arith, fell))))
        ]
      ]

      pub finished-plain : (styles p : ℕ) → 0 < styles → base p ≡ None → built styles p ≡ own p
      finished-plain zero p h e = absurd (omega arith)
      finished-plain (suc styles) p h e = rw e refl

      pub finished-cyclic : (styles p q : ℕ) → 0 < styles → p < count → base p ≡ Some q → OnCycle base p → built styles p ≡ over p decimal_style
      finished-cyclic zero p q h k e o = absurd (omega arith)
      finished-cyclic (suc styles) p q h k e o = rw (e, test_from_on_cycle p k o) refl

      pub finished-extends : (styles p q : ℕ) → styles ≡ count → p < count → base p ≡ Some q → (OnCycle base p → ⊥) → built styles p ≡ over p (built styles q)
      finished-extends zero p q s k e n = absurd (omega arith)
      finished-extends (suc styles) p q s k e n =
          let off : leads base count p p ≡ false = false_from_ne_true _ (λ test. n (on_cycle_from_test count p test)) in
          let none : LeadTo [] p = none_leads p in
          let fresh : is_met nat_eq (p ∷ []) q ≡ false = false_from_ne_true _ (λ i. n (comes_back [] p q none e i)) in
          let fell = left-falls [] p refl k in
          rw (e, off) (ap (over p) (same_within styles (suc styles) (p ∷ []) q (leads_on [] p q none e) fresh (within p q e) (omega (arith, fell, unmet-items, s)) (omega (arith, fell, unmet-items, s))))

      -- more styles in a row than there are places change nothing
      pub finished-enough : (m p : ℕ) → p < count → count ≤ m → built m p ≡ built count p
      finished-enough m p h k = same_within m count [] p (none_leads p) refl h (omega (arith, unmet-items, k)) (omega (arith, unmet-items))

-- a greater number of places, of which only the first ones extend others, changes nothing
module _ (base : ℕ → Option ℕ) (own : ℕ → CounterStyle) (over : ℕ → CounterStyle → CounterStyle) (count more : ℕ) (within : (p q : ℕ) → base p ≡ Some q → q < count) (larger : count ≤ more) where
  finished_by_more : (styles p : ℕ) → p < count → finished_within base own over more styles p ≡ finished_within base own over count styles p
  finished_by_more zero p h = refl
  finished_by_more (suc styles) p h = elim (cases_option (base p)) [
    | inl e ↦ rw e refl
    | inr (q, e) ↦
        let test = leads_enough base count within more p p h larger in
        let rest = finished_by_more styles q (within p q e) in
        rw (e, test, rest) refl
  ]

  pub finished-more : (p : ℕ) → p < count → finished_within base own over more more p ≡ finished_within base own over count count p
  finished-more p h = finished_by_more more p h ∙ finished-enough base count within own over more p h larger
