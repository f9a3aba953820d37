-- Lists each of whose items is replaced.
use Rattle.std.proofs.Common.{◌≡◌, ◌∷◌, ◌++◌, ◌||◌, ℕ, zero, suc, List, [], Bool, cond, Option, Some, None, take, drop, map, refl, sym, ap, ◌∙◌, inl, inr}
use Rattle.std.proofs.lemmas.Bool.{cases_Bool}
use Rattle.std.proofs.lemmas.List.{drop-map, map-append, take-map}
use Rattle.std.proofs.lemmas.Option.{slice_get-map}
use Rattle.std.specs.Prelude.{filter, find, flat_map, fold, option_map, remove, slice_get}
use Rattle.std.specs.List.{join_by, list_any}
use Rattle.std.specs.Option.{option_and_then, option_map_or, option_or}
use Rattle.counter_sets.specs.Sets.{change_at, last_place}

-- A test of the new items says what another says of the old.
module _ {X Y : Type 0} (f : X → Y) (old : X → Bool) (new : Y → Bool) (tied : (x : X) → new (f x) ≡ old x) where
  pub any_map : (xs : List X) → list_any new (map f xs) ≡ list_any old xs
  any_map [] = refl
  any_map (x ∷ xs) = ap (λ b. b || list_any new (map f xs)) (tied x) ∙ ap (λ b. old x || b) (any_map xs)

  pub find_map : (xs : List X) → find new (map f xs) ≡ option_map f (find old xs)
  find_map [] = refl
  find_map (x ∷ xs) = elim (cases_Bool (old x)) [
    | inl e ↦ rw (tied x, e) refl
    | inr e ↦ rw (tied x, e) (find_map xs)
  ]

  pub filter_map : (xs : List X) → filter new (map f xs) ≡ map f (filter old xs)
  filter_map [] = refl
  filter_map (x ∷ xs) = elim (cases_Bool (old x)) [
    | inl e ↦ rw (tied x, e) (ap (λ ys. f x ∷ ys) (filter_map xs))
    | inr e ↦ rw (tied x, e) (filter_map xs)
  ]

  pub last_place_map : (xs : List X) → last_place new (map f xs) ≡ last_place old xs
  last_place_map [] = refl
  last_place_map (x ∷ xs) =
      ap (λ o. option_map_or (λ place. Some (suc place)) o (cond (new (f x)) (Some 0) None)) (last_place_map xs)
      ∙ ap (λ b. option_map_or (λ place. Some (suc place)) (last_place old xs) (cond b (Some 0) None)) (tied x)

module _ {X Y : Type 0} (f : X → Y) where
  pub remove_map : (xs : List X) (n : ℕ) → remove (map f xs) n ≡ map f (remove xs n)
  remove_map xs n =
      ap (λ ys. ys ++ drop (suc n) (map f xs)) (take-map f n xs)
      ∙ ap (λ ys. map f (take n xs) ++ ys) (drop-map f (suc n) xs)
      ∙ sym (map-append f (take n xs) (drop (suc n) xs))

  pub change_at_map : (old : X → X) (new : Y → Y) → ((x : X) → new (f x) ≡ f (old x)) → (xs : List X) (n : ℕ) → change_at new (map f xs) n ≡ map f (change_at old xs n)
  change_at_map old new tied [] n = refl
  change_at_map old new tied (x ∷ xs) zero = ap (λ y. y ∷ map f xs) (tied x)
  change_at_map old new tied (x ∷ xs) (suc n) = ap (λ ys. f x ∷ ys) (change_at_map old new tied xs n)

-- steps from the new that do what others do from the old
pub fold_map : {A B C : Type 0} (f : A → B) (old : A → C → A) (new : B → C → B) → ((a : A) (c : C) → new (f a) c ≡ f (old a c)) → (cs : List C) (a : A) → fold new (f a) cs ≡ f (fold old a cs)
fold_map f old new tied [] a = refl
fold_map f old new tied (c ∷ cs) a = ap (λ b. fold new b cs) (tied a c) ∙ fold_map f old new tied cs (old a c)

-- two functions that give the same
module _ {X Y : Type 0} (f g : X → Y) (same : (x : X) → f x ≡ g x) where
  pub map_same : (xs : List X) → map f xs ≡ map g xs
  map_same [] = refl
  map_same (x ∷ xs) = ap (λ y. y ∷ map f xs) (same x) ∙ ap (λ ys. g x ∷ ys) (map_same xs)

pub map_map : {X Y Z : Type 0} (f : X → Y) (g : Y → Z) (xs : List X) → map g (map f xs) ≡ map (λ x. g (f x)) xs
map_map f g [] = refl
map_map f g (x ∷ xs) = ap (λ ys. g (f x) ∷ ys) (map_map f g xs)

pub flat_map_same : {X A : Type 0} (f g : X → List A) → ((x : X) → f x ≡ g x) → (xs : List X) → flat_map f xs ≡ flat_map g xs
flat_map_same f g same [] = refl
flat_map_same f g same (x ∷ xs) = ap (λ y. y ++ flat_map f xs) (same x) ∙ ap (λ ys. g x ++ ys) (flat_map_same f g same xs)

pub flat_map_map : {X Y A : Type 0} (f : X → Y) (old : X → List A) (new : Y → List A) → ((x : X) → new (f x) ≡ old x) → (xs : List X) → flat_map new (map f xs) ≡ flat_map old xs
flat_map_map f old new tied [] = refl
flat_map_map f old new tied (x ∷ xs) = ap (λ y. y ++ flat_map new (map f xs)) (tied x) ∙ ap (λ ys. old x ++ ys) (flat_map_map f old new tied xs)

pub join_map : {X Y A : Type 0} (f : X → Y) (old : X → List A) (new : Y → List A) → ((x : X) → new (f x) ≡ old x) → (between : List A) (xs : List X) → join_by new between (map f xs) ≡ join_by old between xs
join_map f old new tied between [] = refl
join_map f old new tied between (x ∷ xs) =
    ap (λ y. y ++ flat_map (λ z. between ++ new z) (map f xs)) (tied x)
    ∙ ap (λ ys. old x ++ ys) (flat_map_map f (λ z. between ++ old z) (λ z. between ++ new z) (λ z. ap (λ ys. between ++ ys) (tied z)) xs)

-- The same of an item that may be missing.
module _ {X Y : Type 0} (f : X → Y) where
  pub map_or_map : {Z : Type 0} (old : X → Z) (new : Y → Z) → ((x : X) → new (f x) ≡ old x) → (o : Option X) (z : Z) → option_map_or new (option_map f o) z ≡ option_map_or old o z
  map_or_map old new tied None z = refl
  map_or_map old new tied (Some x) z = tied x

  pub or_map : (one other : Option X) → option_or (option_map f one) (option_map f other) ≡ option_map f (option_or one other)
  or_map None other = refl
  or_map (Some x) other = refl

  pub get_map : (xs : List X) (place : Option ℕ) → option_and_then (slice_get (map f xs)) place ≡ option_map f (option_and_then (slice_get xs) place)
  get_map xs None = refl
  get_map xs (Some n) = slice_get-map f xs n

pub option_map_map : {X Y Z : Type 0} (f : X → Y) (old : X → Z) (new : Y → Z) → ((x : X) → new (f x) ≡ old x) → (o : Option X) → option_map new (option_map f o) ≡ option_map old o
option_map_map f old new tied None = refl
option_map_map f old new tied (Some x) = ap Some (tied x)

-- two functions, the second of which gives for a replaced item what the first gives, replaced
pub option_map_past : {X Y Z W : Type 0} (f : X → Y) (g : Z → W) (old : X → Z) (new : Y → W) → ((x : X) → new (f x) ≡ g (old x)) → (o : Option X) → option_map new (option_map f o) ≡ option_map g (option_map old o)
option_map_past f g old new tied None = refl
option_map_past f g old new tied (Some x) = ap Some (tied x)

pub then_past : {X Y Z W : Type 0} (f : X → Y) (g : Z → W) (old : X → Option Z) (new : Y → Option W) → ((x : X) → new (f x) ≡ option_map g (old x)) → (o : Option X) → option_and_then new (option_map f o) ≡ option_map g (option_and_then old o)
then_past f g old new tied None = refl
then_past f g old new tied (Some x) = tied x

pub then_same : {X Y Z : Type 0} (g : Y → Z) (old : X → Option Y) (new : X → Option Z) → ((x : X) → new x ≡ option_map g (old x)) → (o : Option X) → option_and_then new o ≡ option_map g (option_and_then old o)
then_same g old new tied None = refl
then_same g old new tied (Some x) = tied x

pub map_or_same : {X Z : Type 0} (old new : X → Z) → ((x : X) → new x ≡ old x) → (o : Option X) (z : Z) → option_map_or new o z ≡ option_map_or old o z
map_or_same old new tied None z = refl
map_or_same old new tied (Some x) z = tied x

pub and_then_same : {X Z : Type 0} (old new : X → Option Z) → ((x : X) → new x ≡ old x) → (o : Option X) → option_and_then new o ≡ option_and_then old o
and_then_same old new tied None = refl
and_then_same old new tied (Some x) = tied x
