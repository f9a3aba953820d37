-- Chains that are followed from one item to the next until one of them answers, as `fallback` and
-- `extends` are. With the items met so far and without them the answer is the same, and more turns than
-- there are items change nothing.
use Rattle.std.proofs.Common.{◌≡◌, ◌+◌, ◌∷◌, ◌||◌, ◌<◌, ◌≤◌, ℕ, zero, suc, List, [], Bool, true, false, Option, Some, None, cond, length, refl, sym, ap, ◌∙◌, arith, inl, inr, ◌⊎◌}
use Rattle.std.proofs.lemmas.Bool.{cases_Bool, or_right, or_left, both_ways, or_cases}

pub cases_option : {A : Type 0} (found : Option A) → (found ≡ None) ⊎ ((a : A) × (found ≡ Some a))
cases_option None = inl refl
cases_option (Some a) = inr (a, refl)

-- what follows an option
abbrev pub goes : {A X : Type 0} → Option A → (A → X) → X → X
goes None after otherwise = otherwise
goes (Some a) after otherwise = after a

module _ {K : Type 0} (eq : K → K → Bool) where
  abbrev pub is_met : List K → K → Bool
  is_met [] item = false
  is_met (other ∷ met) item = eq other item || is_met met item

module _ {K X : Type 0} (attempt : K → Option X) (next : K → Option K) (last : X) where
  -- the first answer along the chain, in so many turns
  abbrev pub by_turns : ℕ → K → X
  by_turns zero item = last
  by_turns (suc turns) item = goes (attempt item) (λ answer. answer) (goes (next item) (λ other. by_turns turns other) last)

  -- the same, where an item that was met before ends the chain
  abbrev pub by_met : (K → K → Bool) → ℕ → List K → K → X
  by_met eq zero met item = last
  by_met eq (suc turns) met item =
      goes (attempt item) (λ answer. answer) (goes (next item) (λ other. cond (is_met eq (item ∷ met) other) last (by_met eq turns (item ∷ met) other)) last)

module _ {K : Type 0} (eq : K → K → Bool) (same : (a b : K) → eq a b ≡ true → a ≡ b) (itself : (a : K) → eq a a ≡ true) where
  -- how many of these items are not met
  abbrev pub unmet : List K → List K → ℕ
  unmet met [] = 0
  unmet met (item ∷ items) = cond (is_met eq met item) 0 1 + unmet met items

  fewer : (met items : List K) (k : K) → unmet (k ∷ met) items ≤ unmet met items
  fewer met [] k = omega arith
  fewer met (x ∷ items) k = elim (cases_Bool (is_met eq met x)) [
    | inl e ↦ let f : is_met eq (k ∷ met) x ≡ true = or_right (eq k x) (is_met eq met x) e in rw (f, e) (omega (arith, fewer met items k))
    | inr e ↦ elim (cases_Bool (is_met eq (k ∷ met) x)) [
      | inl f ↦ rw (f, e) (omega (arith, fewer met items k))
      | inr f ↦ rw (f, e) (omega (arith, fewer met items k))
    ]
  ]

  -- an item that is met now was not met before, so fewer are left
  pub unmet-falls : (met items : List K) (k : K) → is_met eq met k ≡ false → is_met eq items k ≡ true → unmet (k ∷ met) items < unmet met items
  unmet-falls met [] k h i = absurd (both_ways _ refl i)
  unmet-falls met (x ∷ items) k h i = elim (or_cases (eq x k) (is_met eq items k) i) [
    | inl e ↦
        let at : x ≡ k = same x k e in
        let f : is_met eq (k ∷ met) x ≡ true = rw at (or_left (eq k k) (is_met eq met k) (itself k)) in
        let g : is_met eq met x ≡ false = ap (is_met eq met) at ∙ h in
        rw (f, g) (omega (arith, fewer met items k))
    | inr e ↦ elim (cases_Bool (is_met eq met x)) [
      | inl g ↦ let f : is_met eq (k ∷ met) x ≡ true = or_right (eq k x) (is_met eq met x) g in rw (f, g) (omega (arith, unmet-falls met items k h e))
      | inr g ↦ elim (cases_Bool (is_met eq (k ∷ met) x)) [
        | inl f ↦ rw (f, g) (omega (arith, unmet-falls met items k h e))
        | inr f ↦ rw (f, g) (omega (arith, unmet-falls met items k h e))
      ]
    ]
  ]

  pub unmet-nil : (items : List K) → unmet [] items ≡ length items
  unmet-nil [] = refl
  unmet-nil (x ∷ items) = omega (arith, unmet-nil items)

  module _ {X : Type 0} (attempt : K → Option X) (next : K → Option K) (last : X) (items : List K) (known : (k q : K) → next k ≡ Some q → is_met eq items q ≡ true) where
    -- all of these items give no answer, and what follows each is among them, or is the present one
    record Failed (met : List K) (k : K) : Type 0 where
      fail : (q : K) → is_met eq met q ≡ true → attempt q ≡ None
      stay : (q : K) → is_met eq met q ≡ true → (r : K) × (next q ≡ Some r) × (is_met eq (k ∷ met) r ≡ true)

    abbrev turns_of : ℕ → K → X
    turns_of turns k = by_turns attempt next last turns k

    abbrev met_of : ℕ → List K → K → X
    met_of turns met k = by_met attempt next last eq turns met k

    -- a chain that stays among items that give no answer ends at the last
    stuck : (met : List K) (turns : ℕ) (k : K) → ((q : K) → is_met eq met q ≡ true → attempt q ≡ None) → ((q : K) → is_met eq met q ≡ true → (r : K) × (next q ≡ Some r) × (is_met eq met r ≡ true)) → is_met eq met k ≡ true → turns_of turns k ≡ last
    stuck met zero k fail stay h = refl
    stuck met (suc turns) k fail stay h = rw (fail k h, (stay k h).1) (stuck met turns (stay k h).0 fail stay (stay k h).2)

    -- the present item joins those that gave no answer
    joins : (met : List K) (k q : K) → Failed met k → attempt k ≡ None → next k ≡ Some q → Failed (k ∷ met) q
    joins met k q f none some = record {
      fail = λ x h. elim (or_cases (eq k x) (is_met eq met x) h) [
        | inl e ↦ ap attempt (sym (same k x e)) ∙ none
        | inr e ↦ f.fail x e
      ];
      stay = λ x h. elim (or_cases (eq k x) (is_met eq met x) h) [
        | inl e ↦ (q, ap next (sym (same k x e)) ∙ some, or_left (eq q q) (is_met eq (k ∷ met) q) (itself q))
        | inr e ↦ ((f.stay x e).0, (f.stay x e).1, or_right (eq q (f.stay x e).0) (is_met eq (k ∷ met) (f.stay x e).0) (f.stay x e).2)
      ];
    }

    -- a chain that comes back to an item ends at the last
    comes_back : (met : List K) (k q : K) (turns : ℕ) → Failed met k → attempt k ≡ None → next k ≡ Some q → is_met eq (k ∷ met) q ≡ true → turns_of turns q ≡ last
    comes_back met k q turns f none some h = stuck (k ∷ met) turns q
        (joins met k q f none some).fail
        (λ x i. elim (or_cases (eq k x) (is_met eq met x) i) [
          | inl e ↦ (q, ap next (sym (same k x e)) ∙ some, h)
          | inr e ↦ f.stay x e
        ])
        h

    by_turns_is : (turns m : ℕ) (met : List K) (k : K) → Failed met k → is_met eq met k ≡ false → is_met eq items k ≡ true → unmet met items ≤ turns → unmet met items ≤ m → turns_of m k ≡ met_of turns met k
    by_turns_is zero m met k f new here p q = absurd (omega (arith, unmet-falls met items k new here))
    by_turns_is (suc turns) zero met k f new here p q = absurd (omega (arith, unmet-falls met items k new here))
    by_turns_is (suc turns) (suc m) met k f new here p q = elim (cases_option (attempt k)) [
      | inr (answer, e) ↦ rw e refl
      | inl none ↦ elim (cases_option (next k)) [
        | inl e ↦ rw (none, e) refl
        | inr (other, e) ↦ elim (cases_Bool (is_met eq (k ∷ met) other)) [
          | inl h ↦ rw (none, e, h) (comes_back met k other m f none e h)
          | inr h ↦
              let fell = unmet-falls met items k new here in
              rw (none, e, h) (by_turns_is turns m (k ∷ met) other (joins met k other f none e) h (known k other e) (omega (arith, fell)) (omega (arith, fell)))
        ]
      ]
    ]

    none_failed : (k : K) → Failed [] k
    none_failed k = record { fail = λ q h. absurd (both_ways _ refl h); stay = λ q h. absurd (both_ways _ refl h) }

    -- from no item met on: as many turns as there are items are enough, for both
    pub by_turns-by_met : (turns m : ℕ) (k : K) → is_met eq items k ≡ true → length items ≤ turns → length items ≤ m → turns_of m k ≡ met_of turns [] k
    by_turns-by_met turns m k here p q =
        let all = unmet-nil items in by_turns_is turns m [] k (none_failed k) refl here (omega (arith, all)) (omega (arith, all))
