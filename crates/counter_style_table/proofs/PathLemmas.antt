-- A way down along `extends` leaves a path that can be finished on the way up.
use Rattle.std.proofs.Common.{◌≡◌, ◌∷◌, ◌==◌, ◌<◌, ℕ, suc, List, [], Bool, true, false, cond, Option, Some, None, refl, sym, ap, subst, ◌∙◌, inl, inr, ◌⊎◌}
use Rattle.std.proofs.lemmas.Bool.{cases_Bool, or_cases, or_left, or_right, both_ways, eqb-true, eq-eqb, ne_eqb}
use Rattle.plain_types.specs.declared.counter_style.CounterStyle.{CounterStyle}
use Rattle.plain_types.specs.Table.{decimal_style}
use Rattle.counter_style_table.specs.Extends.{led, OnCycle, AreExtending, AreReady, EitherFact, AreBelow, is_on_path}
use Rattle.counter_style_table.proofs.CycleLemmas.{base_on_cycle, below, outside, leads_within, led_more, then_some}

-- each place extends the one above it in the list, the first extends `at`
abbrev pub AreLinked : (ℕ → Option ℕ) → Option ℕ → List ℕ → Type 0
AreLinked base at [] = Unit {0}
AreLinked base at (p ∷ ps) = (base p ≡ at) × AreLinked base (Some p) ps

abbrev pub AreDistinct : List ℕ → Type 0
AreDistinct [] = Unit {0}
AreDistinct (p ∷ ps) = (is_on_path p ps ≡ false) × AreDistinct ps

-- the places down to `head`, and those under it
abbrev upper : ℕ → List ℕ → List ℕ
upper head [] = []
upper head (p ∷ ps) = p ∷ cond (p == head) [] (upper head ps)

abbrev under : ℕ → List ℕ → List ℕ
under head [] = []
under head (p ∷ ps) = cond (p == head) ps (under head ps)

under_in : (head x : ℕ) (places : List ℕ) → is_on_path x (under head places) ≡ true → is_on_path x places ≡ true
under_in head x [] h = h
under_in head x (p ∷ ps) h = elim (cases_Bool (p == head)) [
  | inl e ↦ or_right (p == x) (is_on_path x ps) (subst (λ b. is_on_path x (cond b ps (under head ps)) ≡ true) e h)
  | inr e ↦ or_right (p == x) (is_on_path x ps) (under_in head x ps (subst (λ b. is_on_path x (cond b ps (under head ps)) ≡ true) e h))
]

under_not_upper : (head x : ℕ) (places : List ℕ) → AreDistinct places → is_on_path x (under head places) ≡ true → is_on_path x (upper head places) ≡ true → ⊥
under_not_upper head x [] d h u = both_ways _ refl h
under_not_upper head x (p ∷ ps) d h u = elim (cases_Bool (p == head)) [
  | inl e ↦ elim (or_cases (p == x) (is_on_path x (cond (p == head) [] (upper head ps))) u) [
    | inl at ↦ both_ways _ d.0 (subst (λ y. is_on_path y ps ≡ true) (sym (eqb-true p x at)) (subst (λ b. is_on_path x (cond b ps (under head ps)) ≡ true) e h))
    | inr i ↦ both_ways _ refl (subst (λ b. is_on_path x (cond b [] (upper head ps)) ≡ true) e i)
  ]
  | inr e ↦ elim (or_cases (p == x) (is_on_path x (cond (p == head) [] (upper head ps))) u) [
    | inl at ↦ both_ways _ d.0 (subst (λ y. is_on_path y ps ≡ true) (sym (eqb-true p x at)) (under_in head x ps (subst (λ b. is_on_path x (cond b ps (under head ps)) ≡ true) e h)))
    | inr i ↦ under_not_upper head x ps d.1 (subst (λ b. is_on_path x (cond b ps (under head ps)) ≡ true) e h) (subst (λ b. is_on_path x (cond b [] (upper head ps)) ≡ true) e i)
  ]
]

head_upper : (head : ℕ) (places : List ℕ) → is_on_path head places ≡ true → is_on_path head (upper head places) ≡ true
head_upper head [] h = h
head_upper head (p ∷ ps) h = elim (cases_Bool (p == head)) [
  | inl e ↦ or_left (p == head) (is_on_path head (cond (p == head) [] (upper head ps))) e
  | inr e ↦ elim (or_cases (p == head) (is_on_path head ps) h) [
    | inl at ↦ absurd (both_ways _ e at)
    | inr i ↦ or_right (p == head) (is_on_path head (cond (p == head) [] (upper head ps))) (subst (λ b. is_on_path head (cond b [] (upper head ps)) ≡ true) (sym e) (head_upper head ps i))
  ]
]

eq_sides : (p q : ℕ) (b : Bool) → (p == q) ≡ b → b ≡ (q == p)
eq_sides p q true e = sym (eq-eqb q p (sym (eqb-true p q e)))
eq_sides p q false e = sym (ne_eqb q p (λ f. both_ways _ e (eq-eqb p q (sym f))))

module _ (base : ℕ → Option ℕ) where
  upper_closed : (head : ℕ) (at : Option ℕ) (places : List ℕ) (x y : ℕ) → AreLinked base at places → is_on_path x (upper head places) ≡ true → base x ≡ Some y → (Some y ≡ at) ⊎ (is_on_path y (upper head places) ≡ true)
  upper_closed head at [] x y l u b = absurd (both_ways _ refl u)
  upper_closed head at (p ∷ ps) x y l u b = elim (or_cases (p == x) (is_on_path x (cond (p == head) [] (upper head ps))) u) [
    | inl here ↦ inl (sym b ∙ ap base (sym (eqb-true p x here)) ∙ l.0)
    | inr i ↦ elim (cases_Bool (p == head)) [
      | inl e ↦ absurd (both_ways _ refl (subst (λ c. is_on_path x (cond c [] (upper head ps)) ≡ true) e i))
      | inr e ↦ elim (upper_closed head (Some p) ps x y l.1 (subst (λ c. is_on_path x (cond c [] (upper head ps)) ≡ true) e i) b) [
        | inl same ↦ let at_p : y ≡ p = cc in inr (or_left (p == y) (is_on_path y (cond (p == head) [] (upper head ps))) (eq-eqb p y (sym at_p)))
        | inr there ↦ inr (or_right (p == y) (is_on_path y (cond (p == head) [] (upper head ps))) (subst (λ c. is_on_path y (cond c [] (upper head ps)) ≡ true) (sym e) there))
      ]
    ]
  ]

  -- what a place of the path extends is on the path, or where the path ends
  pub linked_next : (at : Option ℕ) (places : List ℕ) (x y : ℕ) → AreLinked base at places → is_on_path x places ≡ true → base x ≡ Some y → (Some y ≡ at) ⊎ (is_on_path y places ≡ true)
  linked_next at [] x y l h b = absurd (both_ways _ refl h)
  linked_next at (p ∷ ps) x y l h b = elim (or_cases (p == x) (is_on_path x ps) h) [
    | inl here ↦ inl (sym b ∙ ap base (sym (eqb-true p x here)) ∙ l.0)
    | inr i ↦ elim (linked_next (Some p) ps x y l.1 i b) [
      | inl same ↦ let at_p : y ≡ p = cc in inr (or_left (p == y) (is_on_path y ps) (eq-eqb p y (sym at_p)))
      | inr there ↦ inr (or_right (p == y) (is_on_path y ps) there)
    ]
  ]

  led_to : (head : ℕ) (at : Option ℕ) (places : List ℕ) → AreLinked base at places → is_on_path head places ≡ true → (k : ℕ) × (led base (suc k) head ≡ at)
  led_to head at [] l h = absurd (both_ways _ refl h)
  led_to head at (p ∷ ps) l h = elim (or_cases (p == head) (is_on_path head ps) h) [
    | inl here ↦ (0, then_some base (base head) ∙ ap base (sym (eqb-true p head here)) ∙ l.0)
    | inr there ↦ let found = led_to head (Some p) ps l.1 there in (suc found.0, led_more base (suc found.0) head p found.1 ∙ l.0)
  ]

  top_on_cycle : (head p : ℕ) (ps : List ℕ) (at : Option ℕ) → AreLinked base at (p ∷ ps) → is_on_path head (p ∷ ps) ≡ true → OnCycle base head → OnCycle base p
  top_on_cycle head p [] at l h o = elim (or_cases (p == head) false h) [
    | inl here ↦ subst (OnCycle base) (sym (eqb-true p head here)) o
    | inr there ↦ absurd (both_ways _ refl there)
  ]
  top_on_cycle head p (q ∷ qs) at l h o = elim (or_cases (p == head) (is_on_path head (q ∷ qs)) h) [
    | inl here ↦ subst (OnCycle base) (sym (eqb-true p head here)) o
    | inr there ↦ base_on_cycle base q p l.1.0 (top_on_cycle head q qs (Some p) l.1 there o)
  ]

  extending_from : (p : ℕ) (ps : List ℕ) → (OnCycle base p → ⊥) → AreLinked base (Some p) ps → AreExtending base p ps
  extending_from p [] n l = tt
  extending_from p (q ∷ qs) n l = let m = below base q p l.0 n in (l.0, m, extending_from q qs m l.1)

  extending_start : (p : ℕ) (ps : List ℕ) → ((r : ℕ) → is_on_path r ps ≡ true → base r ≡ Some p → OnCycle base r → ⊥) → AreLinked base (Some p) ps → AreExtending base p ps
  extending_start p [] n l = tt
  extending_start p (r ∷ rs) n l = let m = n r (or_left (r == r) (is_on_path r rs) (eq-eqb r r refl)) l.0 in (l.0, m, extending_from r rs m l.1)

  -- a place under the head that is on a cycle would be above it
  comes_above : (head : ℕ) (places : List ℕ) → AreLinked base (Some head) places → is_on_path head places ≡ true → (r : ℕ) → base r ≡ Some head → OnCycle base r → is_on_path r (upper head places) ≡ true
  comes_above head places l h r b c =
      leads_within base (λ x. is_on_path x (upper head places) ≡ true)
      (λ x y u e. elim (upper_closed head (Some head) places x y l u e) [
        | inl same ↦ let at : head ≡ y = cc in subst (λ z. is_on_path z (upper head places) ≡ true) at (head_upper head places h)
        | inr there ↦ there
      ])
      c.steps head r (head_upper head places h) (rw b at c.back)

  module _ (over : ℕ → CounterStyle → CounterStyle) (finished : ℕ → CounterStyle) (count : ℕ) where
    module _ (on : (p q : ℕ) → p < count → base p ≡ Some q → OnCycle base p → finished p ≡ over p decimal_style) (off : (p q : ℕ) → p < count → base p ≡ Some q → (OnCycle base p → ⊥) → finished p ≡ over p (finished q)) where
      -- the way down ended at a place that is finished
      pub ready_at_finished : (Holds : ℕ → Type 0) → ((p q : ℕ) → Holds p → base p ≡ Some q → Holds q) → (q : ℕ) (style : CounterStyle) (places : List ℕ)
          → Holds q → style ≡ finished q → ((p : ℕ) → is_on_path p places ≡ true → Holds p → ⊥) → AreBelow count places → AreLinked base (Some q) places → AreReady base over finished None style places
      ready_at_finished Holds closed q style [] h e out w l = tt
      ready_at_finished Holds closed q style (p ∷ ps) h e out w l =
          let n = outside base Holds closed p q l.0 h (out p (or_left (p == p) (is_on_path p ps) (eq-eqb p p refl))) in
          (ap (over p) e ∙ sym (off p q w.0 l.0 n), extending_from p ps n l.1)

      cyclic_part : (head : ℕ) (places : List ℕ) (q : ℕ) → AreLinked base (Some q) places → AreBelow count places → is_on_path head places ≡ true → OnCycle base head → ((r : ℕ) → is_on_path r (under head places) ≡ true → base r ≡ Some head → OnCycle base r → ⊥) → AreReady base over finished (Some head) decimal_style places
      cyclic_part head [] q l w h o n = both_ways _ refl h
      cyclic_part head (p ∷ ps) q l w h o n = (
        refl,
        sym (on p q w.0 l.0 (top_on_cycle head p ps (Some q) l h o)),
        elim (cases_Bool (p == head)) [
          | inl e ↦ subst (λ b. EitherFact b (AreExtending base p ps) (AreReady base over finished (Some head) decimal_style ps)) (eq_sides p head true e) (extending_start p ps (λ r i f. n r (subst (λ b. is_on_path r (cond b ps (under head ps)) ≡ true) (sym e) i) (f ∙ ap Some (eqb-true p head e))) l.1)
          | inr e ↦ subst (λ b. EitherFact b (AreExtending base p ps) (AreReady base over finished (Some head) decimal_style ps)) (eq_sides p head false e) (elim (or_cases (p == head) (is_on_path head ps) h) [
            | inl i ↦ absurd (both_ways _ e i)
            | inr i ↦ cyclic_part head ps p l.1 w.1 i o (λ r j f. n r (subst (λ b. is_on_path r (cond b ps (under head ps)) ≡ true) (sym e) j) f)
          ])
        ],
      )

      -- the way down ended at a place of its own
      pub ready_at_cycle : (head : ℕ) (places : List ℕ) → AreLinked base (Some head) places → AreBelow count places → is_on_path head places ≡ true → AreDistinct places → AreReady base over finished (Some head) decimal_style places
      ready_at_cycle head places l w h d =
          let there = led_to head (Some head) places l h in
          let o : OnCycle base head = record { steps = there.0; back = there.1 } in
          cyclic_part head places head l w h o (λ r i b c. under_not_upper head r places d i (comes_above head places l h r b c))

      -- A turn of the way up. The places that are left are ready for the next one.
      still_ready : (p : ℕ) (style : CounterStyle) (places : List ℕ) → style ≡ finished p → AreBelow count places → AreExtending base p places → AreReady base over finished None style places
      still_ready p style [] e w c = tt
      still_ready p style (r ∷ rs) e w c = (ap (over r) e ∙ sym (off r p w.0 c.0 c.1), c.2)

      pub turn_plain : (p : ℕ) (style : CounterStyle) (places : List ℕ) → AreBelow count (p ∷ places) → AreReady base over finished None style (p ∷ places)
          → (over p style ≡ finished p) × AreReady base over finished None (over p style) places
      turn_plain p style places w r = (r.0, still_ready p (over p style) places r.0 w.1 r.1)

      pub turn_head : (head p : ℕ) (style : CounterStyle) (places : List ℕ) → (head == p) ≡ true → AreBelow count (p ∷ places) → AreReady base over finished (Some head) style (p ∷ places)
          → (over p style ≡ finished p) × AreReady base over finished None (over p style) places
      turn_head head p style places e w r = (r.1, still_ready p (over p style) places r.1 w.1 (subst (λ b. EitherFact b (AreExtending base p places) (AreReady base over finished (Some head) style places)) e r.2))

      pub turn_cycle : (head p : ℕ) (style : CounterStyle) (places : List ℕ) → (head == p) ≡ false → AreReady base over finished (Some head) style (p ∷ places)
          → (style ≡ decimal_style) × (over p style ≡ finished p) × AreReady base over finished (Some head) style places
      turn_cycle head p style places e r = (r.0, r.1, subst (λ b. EitherFact b (AreExtending base p places) (AreReady base over finished (Some head) style places)) e r.2)
