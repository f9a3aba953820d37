-- Paths that are led past a node, told by their positions below that node's parent.
use Rattle.std.proofs.Common.{◌≡◌, ◌==◌, ◌+◌, ◌-◌, ◌<◌, ◌≤◌, ℕ, zero, suc, nat_lt, cond, true, false, List, [], ◌∷◌, ◌++◌, length, set, take, slice_get, Option, Some, None, is_some, refl, sym, ap, ◌∙◌, inl, inr, arith, ltb-true, lt-ltb}
use Rattle.std.proofs.lemmas.Bool.{cases_Bool}
use Rattle.std.proofs.lemmas.Option.{none-some, same_Some}
use Rattle.std.specs.List.{last_or}
use Rattle.forest.specs.Forest.{Forest, Empty, Tree, size}
use Rattle.forest.specs.Paths.{trees_from}
use Rattle.node_arena.specs.AtPaths.{label_at, once_out}
use Rattle.edit_inverses.specs.Inverses.{last_position, once_in, parent_path}
use Rattle.edit_inverses.specs.Places.{position_below}

-- the path whose position below a node is changed so
abbrev pub led : (ℕ → ℕ) → List ℕ → List ℕ → List ℕ
led change [] [] = []
led change [] (position ∷ path) = change position ∷ path
led change (step ∷ parent) [] = []
led change (step ∷ parent) (position ∷ path) = position ∷ cond (step == position) (led change parent path) path

-- a position once a node has come to another, and once one is taken out there
abbrev pub moved_on : ℕ → ℕ → ℕ
moved_on come position = cond (nat_lt position come) position (position + 1)

abbrev pub moved_up : ℕ → ℕ → ℕ
moved_up gone position = cond (nat_lt gone position) (position - 1) position

pub in_led : (parent : List ℕ) (come : ℕ) (path : List ℕ) → once_in (parent ++ come ∷ []) path ≡ led (moved_on come) parent path
in_led [] come [] = refl
in_led [] come (position ∷ path) = refl
in_led (step ∷ []) come [] = refl
in_led (step ∷ (next ∷ above)) come [] = refl
in_led (step ∷ []) come (position ∷ path) = ap (λ rest. position ∷ cond (step == position) rest path) (in_led [] come path)
in_led (step ∷ (next ∷ above)) come (position ∷ path) = ap (λ rest. position ∷ cond (step == position) rest path) (in_led (next ∷ above) come path)

pub out_led : (parent : List ℕ) (gone : ℕ) (path : List ℕ) → once_out (parent ++ gone ∷ []) path ≡ led (moved_up gone) parent path
out_led [] gone [] = refl
out_led [] gone (position ∷ path) = refl
out_led (step ∷ []) gone [] = refl
out_led (step ∷ (next ∷ above)) gone [] = refl
out_led (step ∷ []) gone (position ∷ path) = ap (λ rest. position ∷ cond (step == position) rest path) (out_led [] gone path)
out_led (step ∷ (next ∷ above)) gone (position ∷ path) = ap (λ rest. position ∷ cond (step == position) rest path) (out_led (next ∷ above) gone path)

module _ (change : ℕ → ℕ) where
  -- a path that doesn't lead below stays
  pub led_beside : (parent path : List ℕ) → position_below parent path ≡ None → led change parent path ≡ path
  led_beside [] [] is = refl
  led_beside [] (position ∷ path) is = absurd (let e : Some position ≡ None = is in cc)
  led_beside (step ∷ parent) [] is = refl
  led_beside (step ∷ parent) (position ∷ path) is = elim (cases_Bool (step == position)) [
    | inl e ↦ let below : position_below parent path ≡ None = rw e at is in rw e (ap (λ rest. position ∷ rest) (led_beside parent path below))
    | inr e ↦ rw e refl
  ]

  -- of one that does the position is changed
  pub led_below : (parent path : List ℕ) (own : ℕ) → position_below parent path ≡ Some own → led change parent path ≡ set path (length parent) (change own)
  led_below [] [] own is = absurd (let e : None ≡ Some own = is in cc)
  led_below [] (position ∷ path) own is = let e : position ≡ own = same_Some _ _ is in ap (λ p. change p ∷ path) e
  led_below (step ∷ parent) [] own is = absurd (let e : None ≡ Some own = is in cc)
  led_below (step ∷ parent) (position ∷ path) own is = elim (cases_Bool (step == position)) [
    | inl e ↦ let below : position_below parent path ≡ Some own = rw e at is in rw e (ap (λ rest. position ∷ rest) (led_below parent path own below))
    | inr e ↦ absurd (let e' : None ≡ Some own = rw e at is in cc)
  ]

  -- where the change leaves the position, the path stays
  pub led_same : (parent path : List ℕ) (own : ℕ) → position_below parent path ≡ Some own → change own ≡ own → led change parent path ≡ path
  led_same [] [] own is same = refl
  led_same [] (position ∷ path) own is same = let e : position ≡ own = same_Some _ _ is in ap (λ p. p ∷ path) (ap change e ∙ same ∙ sym e)
  led_same (step ∷ parent) [] own is same = refl
  led_same (step ∷ parent) (position ∷ path) own is same = elim (cases_Bool (step == position)) [
    | inl e ↦ let below : position_below parent path ≡ Some own = rw e at is in rw e (ap (λ rest. position ∷ rest) (led_same parent path own below same))
    | inr e ↦ rw e refl
  ]

-- a path that leads below a node is longer than the node's
pub below_within : (parent path : List ℕ) (own : ℕ) → position_below parent path ≡ Some own → length parent < length path
below_within [] [] own is = absurd (let e : None ≡ Some own = is in cc)
below_within [] (position ∷ path) own is = omega arith
below_within (step ∷ parent) [] own is = absurd (let e : None ≡ Some own = is in cc)
below_within (step ∷ parent) (position ∷ path) own is = elim (cases_Bool (step == position)) [
  | inl e ↦ let below : position_below parent path ≡ Some own = rw e at is in omega (arith, below_within parent path own below)
  | inr e ↦ absurd (let e' : None ≡ Some own = rw e at is in cc)
]

not_low : (a b : ℕ) → b ≤ a → nat_lt a b ≡ false
not_low a b low = elim (cases_Bool (nat_lt a b)) [
  | inl e ↦ absurd (omega (arith, ltb-true a b e))
  | inr e ↦ e
]

-- What the code makes of a path: it is copied, and then its position below the parent is changed where it has to be.
module _ (place parent path steps : List ℕ) (index : ℕ) (copied : steps ≡ path) (split : place ≡ parent ++ index ∷ []) where
  in_is : once_in place path ≡ led (moved_on index) parent path
  in_is = ap (λ p. once_in p path) split ∙ in_led parent index path

  out_is : once_out place path ≡ led (moved_up index) parent path
  out_is = ap (λ p. once_out p path) split ∙ out_led parent index path

  pub in_beside : position_below parent path ≡ None → steps ≡ once_in place path
  in_beside none = copied ∙ sym (in_is ∙ led_beside (moved_on index) parent path none)

  pub out_beside : position_below parent path ≡ None → steps ≡ once_out place path
  out_beside none = copied ∙ sym (out_is ∙ led_beside (moved_up index) parent path none)

  module _ (own : ℕ) (below : position_below parent path ≡ Some own) where
    pub in_before : own < index → steps ≡ once_in place path
    in_before low =
        let test : nat_lt own index ≡ true = lt-ltb own index low in
        copied ∙ sym (in_is ∙ led_same (moved_on index) parent path own below (rw test refl))

    pub in_behind : index ≤ own → set steps (length parent) (own + 1) ≡ once_in place path
    in_behind high =
        let test : nat_lt own index ≡ false = not_low own index high in
        let change : moved_on index own ≡ own + 1 = rw test refl in
        ap (λ xs. set xs (length parent) (own + 1)) copied
        ∙ ap (λ n. set path (length parent) n) (sym change)
        ∙ sym (in_is ∙ led_below (moved_on index) parent path own below)

    pub out_before : own ≤ index → steps ≡ once_out place path
    out_before low =
        let test : nat_lt index own ≡ false = not_low index own low in
        copied ∙ sym (out_is ∙ led_same (moved_up index) parent path own below (rw test refl))

    pub out_behind : index < own → set steps (length parent) (own - 1) ≡ once_out place path
    out_behind high =
        let test : nat_lt index own ≡ true = lt-ltb index own high in
        let change : moved_up index own ≡ own - 1 = rw test refl in
        ap (λ xs. set xs (length parent) (own - 1)) copied
        ∙ ap (λ n. set path (length parent) n) (sym change)
        ∙ sym (out_is ∙ led_below (moved_up index) parent path own below)

-- The last position of a path.

last_all : (o : Option ℕ) (parent : List ℕ) (index : ℕ) → last_or o (parent ++ index ∷ []) ≡ Some index
last_all o [] index = refl
last_all o (step ∷ parent) index = last_all (Some step) parent index

pub last_child : (parent : List ℕ) (index : ℕ) → last_position (parent ++ index ∷ []) ≡ index
last_child parent index = rw (last_all None parent index) refl

-- The positions of a path that leads to a node are below the number of the nodes.

take_get : (count : ℕ) (xs : List ℕ) (level x : ℕ) → slice_get (take count xs) level ≡ Some x → slice_get xs level ≡ Some x
take_get zero xs level x is = absurd (none-some x is)
take_get (suc count) [] level x is = is
take_get (suc count) (y ∷ xs) zero x is = is
take_get (suc count) (y ∷ xs) (suc level) x is = take_get count xs level x is

module _ {L : Type 0} where
  nowhere : (path : List ℕ) (f : Forest L) → f ≡ Empty → is_some (label_at path f) ≡ true → ⊥
  nowhere [] Empty is there = cc
  nowhere (position ∷ path) Empty is there = cc
  nowhere path (Tree n c r) is there = cc

  from_low : (i : ℕ) (f : Forest L) (path : List ℕ) → is_some (label_at path (trees_from i f)) ≡ true → i < size f
  from_low zero Empty path there = absurd (nowhere path Empty refl there)
  from_low (suc i) Empty path there = absurd (nowhere path Empty refl there)
  from_low zero (Tree n c r) path there = omega arith
  from_low (suc i) (Tree n c r) path there = omega (arith, from_low i r path there)

  from_size : (i : ℕ) (f : Forest L) → size (trees_from i f) ≤ size f
  from_size zero f = omega arith
  from_size (suc i) Empty = omega arith
  from_size (suc i) (Tree n c r) = omega (arith, from_size i r)

  pub low_position : (path : List ℕ) (f : Forest L) → is_some (label_at path f) ≡ true → (level position : ℕ) → slice_get path level ≡ Some position → position < size f
  low_position [] f there level position is = absurd (none-some position is)
  low_position (step ∷ path) Empty there level position is = absurd (nowhere (step ∷ path) Empty refl there)
  low_position (step ∷ path) (Tree n c r) there zero position is =
      let same : step ≡ position = same_Some _ _ is in omega (arith, same, from_low step c path there)
  low_position (step ∷ path) (Tree n c r) there (suc level) position is =
      omega (arith, low_position path (trees_from step c) there level position is, from_size step c)

  pub low_above : (path : List ℕ) (f : Forest L) → is_some (label_at path f) ≡ true → (level position : ℕ) → slice_get (parent_path path) level ≡ Some position → position < size f
  low_above path f there level position is = low_position path f there level position (take_get (length path - 1) path level position is)
