-- Keys, each once, that are among others weigh no more than these. Throughout, w is a weight.
use Rattle.std.proofs.Common.{◌≡◌, ◌==◌, ◌≤◌, ◌+◌, ◌++◌, ◌||◌, ◌∙◌, ◌⊎◌, ℕ, nat_eq, Bool, true, false, cond, List, [], ◌∷◌, length, arith, flat_map, refl, sym, ap, ap₂, eqb-true, eq-eqb, inl, inr}
use Rattle.std.specs.Prelude.{IsSome, filter, is_some, sum_by}
use Rattle.std.specs.List.{IsDistinct}
use Rattle.std.specs.Option.{option_and_then}
use Rattle.std.proofs.lemmas.Bool.{cases_Bool, true≢false}
use Rattle.std.proofs.lemmas.Grind.{flat_map-append}
use Rattle.std.proofs.lemmas.List.Folds.{list_any-append}
use Rattle.std.proofs.lemmas.List.Sums.{sum_by-cons}
use Rattle.std.proofs.lemmas.Map.Keys.{IsDistinct-head, IsDistinct-tail}
use Rattle.forest.specs.Forest.{Forest, Empty, Tree, labels}
use Rattle.forest.specs.Keys.{Keyed}
use Rattle.plain_types.specs.declared.node.Node.{Node}
use Rattle.node_arena.specs.Nodes.{name_of, node_name}
use Rattle.edit_merge.specs.EditMerges.{is_element}
use Rattle.edit_work.specs.KeyedSources.{element_key, elements_in, is_among}
use Rattle.kept_elements.proofs.AgainLemmas.{apart_of, or_right}
use Rattle.kept_elements.proofs.SaidLemmas.{label-said, said}

pub either_true : (a b : Bool) → (a || b) ≡ true → (a ≡ true) ⊎ (b ≡ true)
either_true true b h = inl refl
either_true false b h = inr h

abbrev without : ℕ → List ℕ → List ℕ
without k [] = []
without k (x ∷ xs) = cond (x == k) (without k xs) (x ∷ without k xs)

stays : (k key : ℕ) (xs : List ℕ) → nat_eq k key ≡ false → is_among xs key ≡ true → is_among (without k xs) key ≡ true
stays k key [] other there = there
stays k key (x ∷ xs) other there = elim (cases_Bool (x == k)) [
  | inl e ↦
      let apart : (x == key) ≡ false = ap (λ n. nat_eq n key) (eqb-true x k e) ∙ other in
      rw e (stays k key xs other (ap (λ b. b || is_among xs key) (sym apart) ∙ there))
  | inr e ↦ rw e (by (x == key) there (λ h. stays k key xs other h))
]
  where
    by : (b : Bool) → (b || is_among xs key) ≡ true → (is_among xs key ≡ true → is_among (without k xs) key ≡ true) → (b || is_among (without k xs) key) ≡ true
    by true h rest = refl
    by false h rest = rest h

module _ (w : ℕ → ℕ) where
  no_heavier : (k : ℕ) (xs : List ℕ) → sum_by w (without k xs) ≤ sum_by w xs
  no_heavier k [] = omega arith
  no_heavier k (x ∷ xs) = by (x == k) (no_heavier k xs)
    where
      by : (b : Bool) → sum_by w (without k xs) ≤ sum_by w xs → sum_by w (cond b (without k xs) (x ∷ without k xs)) ≤ sum_by w (x ∷ xs)
      by true rest = omega (arith, rest, sum_by-cons w x xs)
      by false rest = omega (arith, rest, sum_by-cons w x xs, sum_by-cons w x (without k xs))

  lighter : (k : ℕ) (xs : List ℕ) → is_among xs k ≡ true → sum_by w (without k xs) + w k ≤ sum_by w xs
  lighter k [] there = absurd (true≢false (sym there))
  lighter k (x ∷ xs) there = by (x == k) refl there (no_heavier k xs) (λ h. lighter k xs h)
    where
      by : (b : Bool) → (x == k) ≡ b → (b || is_among xs k) ≡ true → sum_by w (without k xs) ≤ sum_by w xs → (is_among xs k ≡ true → sum_by w (without k xs) + w k ≤ sum_by w xs)
          → sum_by w (cond b (without k xs) (x ∷ without k xs)) + w k ≤ sum_by w (x ∷ xs)
      by true is h heavier rest = let same : w x ≡ w k = ap w (eqb-true x k is) in omega (arith, heavier, same, sum_by-cons w x xs)
      by false is h heavier rest =
          let less : sum_by w (without k xs) + w k ≤ sum_by w xs = rest h in
          omega (arith, less, sum_by-cons w x xs, sum_by-cons w x (without k xs))

  pub weigh_less : (keys xs : List ℕ) → IsDistinct nat_eq keys → ((key : ℕ) → is_among keys key ≡ true → is_among xs key ≡ true) → sum_by w keys ≤ sum_by w xs
  weigh_less [] xs once there = omega arith
  weigh_less (k ∷ keys) xs once there =
      let head = IsDistinct-head nat_eq k keys once in
      let rest : sum_by w keys ≤ sum_by w (without k xs) =
      weigh_less keys (without k xs) (IsDistinct-tail nat_eq k keys once)
      (λ key among. stays k key xs (apart_of k key keys head among) (there key (or_right (k == key) (is_among keys key) among))) in
      omega (arith, rest, sum_by-cons w k keys, lighter k xs (there k (ap (λ b. b || is_among keys k) (eq-eqb k k refl))))

-- so they are no more
ones : (xs : List ℕ) → sum_by (λ (k : ℕ). 1) xs ≡ length xs
ones [] = refl
ones (x ∷ xs) = omega (arith, ones xs, sum_by-cons (λ (k : ℕ). 1) x xs)

pub no_more : (keys xs : List ℕ) → IsDistinct nat_eq keys → ((key : ℕ) → is_among keys key ≡ true → is_among xs key ≡ true) → length keys ≤ length xs
no_more keys xs once there = omega (arith, weigh_less (λ (k : ℕ). 1) keys xs once there, ones keys, ones xs)

-- one that passes a test is among those that do
pub among-filter : (test : ℕ → Bool) (k : ℕ) → test k ≡ true → (xs : List ℕ) → is_among xs k ≡ true → is_among (filter test xs) k ≡ true
among-filter test k passes [] there = there
among-filter test k passes (x ∷ xs) there = by (test x) refl (λ h. among-filter test k passes xs h)
  where
    by : (b : Bool) → test x ≡ b → (is_among xs k ≡ true → is_among (filter test xs) k ≡ true) → is_among (cond b (x ∷ filter test xs) (filter test xs)) k ≡ true
    by true is rest = elim (either_true (x == k) (is_among xs k) there) [
      | inl same ↦ ap (λ b. b || is_among (filter test xs) k) same
      | inr behind ↦ or_right (x == k) (is_among (filter test xs) k) (rest behind)
    ]
    by false is rest = elim (either_true (x == k) (is_among xs k) there) [
      | inl same ↦ absurd (true≢false (sym (ap test (eqb-true x k same) ∙ passes) ∙ is))
      | inr behind ↦ rest behind
    ]

-- The elements of trees are listed.

listed_of : (ns : List (Keyed Node)) (k : ℕ) → is_some (option_and_then node_name (said ns k)) ≡ true → is_among (flat_map element_key ns) k ≡ true
listed_of [] k named = absurd (true≢false (sym named))
listed_of (n ∷ ns) k named = list_any-append (λ other. other == k) (element_key n) (flat_map element_key ns) ∙ elim (cases_Bool (n.key == k)) [
  | inl is ↦ ap (λ b. b || is_among (flat_map element_key ns) k) (own (is_element n.label) (rw is at named) is)
  | inr other ↦ or_right (is_among (element_key n) k) (is_among (flat_map element_key ns) k) (listed_of ns k (rw other at named))
]
  where
    own : (b : Bool) → b ≡ true → (n.key == k) ≡ true → is_among (cond b (n.key ∷ []) []) k ≡ true
    own true h is = ap (λ b. b || false) is
    own false h is = absurd (true≢false (sym h))

pub elements_labels : (trees : Forest (Keyed Node)) → elements_in trees ≡ flat_map element_key (labels trees)
elements_labels Empty = refl
elements_labels (Tree n c r) =
    ap (λ xs. element_key n ++ xs)
    (ap₂ (λ (xs ys : List ℕ). xs ++ ys) (elements_labels c) (elements_labels r) ∙ sym (flat_map-append element_key (labels c) (labels r)))

pub element_listed : (trees : Forest (Keyed Node)) (k : ℕ) → IsSome (name_of trees k) → is_among (elements_in trees) k ≡ true
element_listed trees k named =
    ap (λ xs. is_among xs k) (elements_labels trees)
    ∙ listed_of (labels trees) k (sym (ap (λ (o : _). is_some (option_and_then node_name o)) (label-said trees k)) ∙ named)

-- elements, each once, of which something holds, weigh no more than all of which it does
pub weigh_where : (w : ℕ → ℕ) (trees : Forest (Keyed Node)) (test : ℕ → Bool) (keys : List ℕ) → IsDistinct nat_eq keys
    → ((key : ℕ) → is_among keys key ≡ true → test key ≡ true) → ((key : ℕ) → is_among keys key ≡ true → IsSome (name_of trees key))
    → sum_by w keys ≤ sum_by w (filter test (elements_in trees))
weigh_where w trees test keys once holds named =
    weigh_less w keys (filter test (elements_in trees)) once
    (λ key among. among-filter test key (holds key among) (elements_in trees) (element_listed trees key (named key among)))
