-- The weights of elements that are listed by their keys. Throughout, w is a weight, n a node, c what is under it, r what
-- is after it, and g trees.
use Rattle.std.proofs.Common.{◌≡◌, ◌≤◌, ℕ, Bool, true, false, cond, List, [], ◌∷◌, ◌++◌, refl, ap, ◌∙◌, arith}
use Rattle.std.specs.Prelude.{filter, flat_map, map, sum_by}
use Rattle.std.proofs.lemmas.List.Elements.{filter-append}
use Rattle.std.proofs.lemmas.List.Sums.{sum_by-append, sum_by-cons}
use Rattle.forest.specs.Forest.{Forest, Empty, Tree}
use Rattle.forest.specs.Keys.{Keyed}
use Rattle.plain_types.specs.declared.node.Node.{Node}
use Rattle.merged_walk.specs.Evaluators.{weigh_elements}
use Rattle.edit_merge.specs.EditMerges.{is_element}
use Rattle.edit_work.specs.KeyedSources.{element_key, elements_in}

module _ (w : ℕ → ℕ) where
  sum-own : (n : Keyed Node) (b : Bool) → sum_by w (cond b (n.key ∷ []) []) ≡ cond b (w n.key) 0
  sum-own n true = omega arith
  sum-own n false = refl

  -- the elements of trees
  pub sum-elements : (g : Forest (Keyed Node)) → sum_by w (elements_in g) ≡ weigh_elements is_element w g
  sum-elements Empty = refl
  sum-elements (Tree n c r) =
      omega (
        arith,
        sum_by-append w (element_key n) (elements_in c ++ elements_in r),
        sum_by-append w (elements_in c) (elements_in r),
        sum-own n (is_element n.label),
        sum-elements c,
        sum-elements r,
      )

  -- nodes in a row
  pub sum-keys : (way : List (Keyed Node)) → sum_by w (map (λ (n : Keyed Node). n.key) way) ≡ sum_by (λ (n : Keyed Node). w n.key) way
  sum-keys [] = refl
  sum-keys (n ∷ way) =
      omega (arith, sum_by-cons w n.key (map (λ (m : Keyed Node). m.key) way), sum_by-cons (λ (m : Keyed Node). w m.key) n way, sum-keys way)

  -- what one gives, and what two give
  pub sum-one : {X : Type 0} (f : X → List ℕ) (x : X) → sum_by w (flat_map f (x ∷ [])) ≡ sum_by w (f x)
  sum-one f x = omega (arith, sum_by-append w (f x) [])

  module _ (differs : ℕ → Bool) where
    -- what a key that differs weighs
    abbrev pub other_weight : ℕ → ℕ
    other_weight key = cond (differs key) (w key) 0

    sum-other : (n : Keyed Node) (b : Bool) → sum_by w (filter differs (cond b (n.key ∷ []) [])) ≡ cond b (other_weight n.key) 0
    sum-other n false = refl
    sum-other n true = elim (differs n.key) as (λ d. sum_by w (cond d (n.key ∷ []) []) ≡ cond d (w n.key) 0) [ true ↦ omega arith | false ↦ refl ]

    -- the elements that differ
    pub sum-differing : (g : Forest (Keyed Node)) → sum_by w (filter differs (elements_in g)) ≡ weigh_elements is_element other_weight g
    sum-differing Empty = refl
    sum-differing (Tree n c r) =
        let parts : filter differs (elements_in (Tree n c r)) ≡ filter differs (element_key n) ++ (filter differs (elements_in c) ++ filter differs (elements_in r)) =
        filter-append differs (element_key n) (elements_in c ++ elements_in r) ∙ ap (λ keys. filter differs (element_key n) ++ keys) (filter-append differs (elements_in c) (elements_in r)) in
        let sum : sum_by w (filter differs (elements_in (Tree n c r))) ≡ sum_by w (filter differs (element_key n) ++ (filter differs (elements_in c) ++ filter differs (elements_in r))) = ap (sum_by w) parts in
        omega (
          arith,
          sum,
          sum_by-append w (filter differs (element_key n)) (filter differs (elements_in c) ++ filter differs (elements_in r)),
          sum_by-append w (filter differs (elements_in c)) (filter differs (elements_in r)),
          sum-other n (is_element n.label),
          sum-differing c,
          sum-differing r,
        )

  -- keys, and more behind each
  pub sum-more : (more : ℕ → List ℕ) (keys : List ℕ) → sum_by w keys ≤ sum_by w (flat_map (λ key. key ∷ more key) keys)
  sum-more more [] = omega arith
  sum-more more (key ∷ keys) =
      omega (
        arith,
        sum_by-cons w key keys,
        sum_by-cons w key (more key ++ flat_map (λ key. key ∷ more key) keys),
        sum_by-append w (more key) (flat_map (λ key. key ∷ more key) keys),
        sum-more more keys,
      )
