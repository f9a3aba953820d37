-- What a document says of a key, told by the list of its nodes.
use Rattle.std.proofs.Common.{◌≡◌, ◌==◌, ◌<◌, ◌≤◌, ◌+◌, ◌∙◌, ◌⊎◌, ℕ, true, false, cond, List, [], ◌∷◌, ◌++◌, Option, Some, None, sum_by, refl, sym, ap, ap₂, inl, inr, arith}
use Rattle.std.specs.Prelude.{find, option_map}
use Rattle.std.specs.Option.{option_or}
use Rattle.std.proofs.lemmas.Bool.{cases_Bool}
use Rattle.std.proofs.lemmas.List.Folds.{find-append}
use Rattle.std.proofs.lemmas.List.Sums.{sum_by-append, sum_by-cons}
use Rattle.forest.specs.Forest.{Forest, Empty, Tree, labels, weigh}
use Rattle.forest.specs.Keys.{Keyed, times}
use Rattle.forest.specs.Spots.{Spot, label_of, spot}
use Rattle.forest.proofs.SpotLaws.{the_spot}

-- what all labels weigh
pub weigh-labels : {L : Type 0} (w : L → ℕ) (f : Forest L) → weigh w f ≡ sum_by w (labels f)
weigh-labels w Empty = refl
weigh-labels w (Tree n c r) =
    omega (arith, weigh-labels w c, weigh-labels w r, sum_by-cons w n (labels c ++ labels r), sum_by-append w (labels c) (labels r))

map-or : {A B : Type 0} (f : A → B) (a b : Option A) → option_map f (option_or a b) ≡ option_or (option_map f a) (option_map f b)
map-or f None b = refl
map-or f (Some x) b = refl

-- of two values one may come first as well as the other, where they are not both there
pub swapped : {A : Type 0} (a b c : Option A) → (b ≡ None) ⊎ (a ≡ None) → option_or a (option_or b c) ≡ option_or b (option_or a c)
swapped a b c (inl e) = rw e refl
swapped a b c (inr e) = rw e refl

module _ {L : Type 0} where
  -- the label of the first node of this key
  abbrev pub said : List (Keyed L) → ℕ → Option L
  said nodes key = option_map (λ (n : Keyed L). n.label) (find (λ (n : Keyed L). n.key == key) nodes)

  -- how many nodes have this key
  abbrev pub often : ℕ → List (Keyed L) → ℕ
  often key nodes = sum_by (λ (n : Keyed L). cond (n.key == key) 1 0) nodes

  pub said-append : (xs ys : List (Keyed L)) (key : ℕ) → said (xs ++ ys) key ≡ option_or (said xs key) (said ys key)
  said-append xs ys key =
      let at : Keyed L → _ = λ (n : Keyed L). n.key == key in
      ap (option_map (λ (n : Keyed L). n.label)) (find-append at xs ys) ∙ map-or (λ (n : Keyed L). n.label) (find at xs) (find at ys)

  spot-said : (f : Forest (Keyed L)) (p : Option ℕ) (e : List (Keyed L)) (key : ℕ) → option_map (λ (s : Spot L). s.label) (spot p e f key) ≡ said (labels f) key
  spot-said Empty p e key = refl
  spot-said (Tree n c r) p e key =
      elim (n.key == key) as (λ b. option_map (λ (s : Spot L). s.label) (cond b (Some (the_spot p e n.label c r)) (option_or (spot (Some n.key) [] c key) (spot p (e ++ n ∷ []) r key)))
      ≡ option_map (λ (m : Keyed L). m.label) (cond b (Some n) (find (λ (m : Keyed L). m.key == key) (labels c ++ labels r)))) [
        | true ↦ refl
        | false ↦
            map-or (λ (s : Spot L). s.label) (spot (Some n.key) [] c key) (spot p (e ++ n ∷ []) r key)
            ∙ ap₂ option_or (spot-said c (Some n.key) [] key) (spot-said r p (e ++ n ∷ []) key)
            ∙ sym (said-append (labels c) (labels r) key)
      ]

  pub label-said : (f : Forest (Keyed L)) (key : ℕ) → label_of f key ≡ said (labels f) key
  label-said f key = spot-said f None [] key

  pub times-often : (key : ℕ) (f : Forest (Keyed L)) → times key f ≡ often key (labels f)
  times-often key f = weigh-labels (λ (n : Keyed L). cond (n.key == key) 1 0) f

  pub often-append : (key : ℕ) (xs ys : List (Keyed L)) → often key (xs ++ ys) ≡ often key xs + often key ys
  often-append key xs ys = sum_by-append (λ (n : Keyed L). cond (n.key == key) 1 0) xs ys

  pub often-cons : (key : ℕ) (n : Keyed L) (ns : List (Keyed L)) → often key (n ∷ ns) ≡ cond (n.key == key) 1 0 + often key ns
  often-cons key n ns = sum_by-cons (λ (m : Keyed L). cond (m.key == key) 1 0) n ns

  -- a key that no node has, or that one has
  pub silent : (ns : List (Keyed L)) (key : ℕ) → (said ns key ≡ None) ⊎ (0 < often key ns)
  silent [] key = inl refl
  silent (n ∷ ns) key = elim (cases_Bool (n.key == key)) [
    | inl e ↦ inr (omega (arith, often-cons key n ns, ap (λ b. cond {A = ℕ} b 1 0) e))
    | inr e ↦ elim (silent ns key) [
      | inl none ↦ inl (rw e none)
      | inr some ↦ inr (omega (arith, often-cons key n ns))
    ]
  ]

  -- a key that comes once is not in both
  pub one-silent : (xs ys : List (Keyed L)) (key : ℕ) → often key xs + often key ys ≤ 1 → (said xs key ≡ None) ⊎ (said ys key ≡ None)
  one-silent xs ys key once = elim (silent xs key) [
    | inl none ↦ inl none
    | inr some ↦ elim (silent ys key) [
      | inl none ↦ inr none
      | inr more ↦ absurd (omega (arith, once, some, more))
    ]
  ]
