-- Lemmas on the lists of sets.
use Rattle.std.proofs.Common.{◌≡◌, ◌∷◌, ◌++◌, ◌<◌, ℕ, zero, suc, List, [], Bool, true, false, cond, Option, Some, None, length, get_or, refl, sym, ap, ◌∙◌, arith, inl, inr}
use Rattle.std.proofs.lemmas.Bool.{cases_Bool}
use Rattle.std.proofs.lemmas.Option.{slice_get-get_or}
use Rattle.std.proofs.lemmas.Slice.Eq.{bytes_eq-Decides}
use Rattle.std.specs.Prelude.{ℤ, pos, is_some, remove, slice_get, slice_set}
use Rattle.std.specs.Option.{option_and_then, option_map_or}
use Rattle.plain_types.specs.declared.box_id.BoxId.{BoxId}
use Rattle.plain_types.specs.declared.counter.Counter.{Counter}
use Rattle.counter_sets.specs.Sets.{change_at, innermost, innermost_place, instantiated, is_named, last_place, with_counter, with_innermost, with_value}

module _ {X : Type 0} where
  -- the last place is that of the last item, where that passes, and else one before it
  pub last_place-push : (test : X → Bool) (xs : List X) (x : X) → last_place test (xs ++ x ∷ []) ≡ cond (test x) (Some (length xs)) (last_place test xs)
  last_place-push test [] x = refl
  last_place-push test (y ∷ xs) x = elim (cases_Bool (test x)) [
    | inl e ↦ rw (last_place-push test xs x, e) (ap Some (omega arith))
    | inr e ↦ rw (last_place-push test xs x, e) refl
  ]

  -- a list that has the last place of another, seen from its end
  pub last_place_here : (test : X → Bool) (all front before : List X) (x : X) → last_place test front ≡ last_place test all → front ≡ before ++ x ∷ [] → test x ≡ true → Some (length before) ≡ last_place test all
  last_place_here test all front before x same ends passes =
      sym (ap (λ b. cond b (Some (length before)) (last_place test before)) passes) ∙ sym (last_place-push test before x) ∙ ap (last_place test) (sym ends) ∙ same

  pub last_place_before : (test : X → Bool) (all front before : List X) (x : X) → last_place test front ≡ last_place test all → front ≡ before ++ x ∷ [] → test x ≡ false → last_place test before ≡ last_place test all
  last_place_before test all front before x same ends fails =
      sym (ap (λ b. cond b (Some (length before)) (last_place test before)) fails) ∙ sym (last_place-push test before x) ∙ ap (last_place test) (sym ends) ∙ same

  pub change_at_last : (change : X → X) (xs : List X) (x : X) → change_at change (xs ++ x ∷ []) (length xs) ≡ xs ++ change x ∷ []
  change_at_last change [] x = refl
  change_at_last change (y ∷ xs) x = ap (λ zs. y ∷ zs) (change_at_last change xs x)

  -- an item put in the place of another that it is made of
  pub set_changed : (change : X → X) (xs : List X) (place : ℕ) (x : X) → x ≡ get_or xs place x → slice_set xs place (change x) ≡ change_at change xs place
  set_changed change [] place x read = refl
  set_changed change (y ∷ xs) zero x read = ap (λ z. change z ∷ xs) read
  set_changed change (y ∷ xs) (suc place) x read = ap (λ zs. y ∷ zs) (set_changed change xs place x read)

-- a value put in the place of another that it is made of
pub changed_alike : (change : ℤ → ℤ) (value : ℤ) (set : List Counter) (place : ℕ) (counter : Counter) → counter ≡ get_or set place counter → value ≡ change counter.value
    → change_at (with_value (λ _. value)) set place ≡ change_at (with_value change) set place
changed_alike change value [] place counter read same = refl
changed_alike change value (c ∷ set) zero counter read same = ap (λ (v : ℤ). record c { value = v } ∷ set) (same ∙ ap (λ (d : Counter). change d.value) read)
changed_alike change value (c ∷ set) (suc place) counter read same = ap (λ counters. c ∷ counters) (changed_alike change value set place counter read same)

module _ (is_replaced : Counter → Bool) (creator : BoxId) (change : ℤ → ℤ) (set : List Counter) (name : List ℕ) where
  abbrev new : Counter
  new = record { name = name; creator = creator; reversed = false; value = pos 0 }

  -- a change where the name has a counter
  pub changed_there : (place : ℕ) → Some place ≡ innermost_place set name → place < length set
      → change_at (with_value change) set place ≡ with_innermost change (with_counter is_replaced creator set name) name
  changed_there place e below =
      let there : with_counter is_replaced creator set name ≡ set =
      ap (λ o. cond (is_some (option_and_then (slice_get set) o)) set (instantiated is_replaced set new)) (sym e)
      ∙ ap (λ o. cond (is_some o) set (instantiated is_replaced set new)) (slice_get-get_or set place new below) in
      ap (λ o. option_map_or (change_at (with_value change) set) o set) e
      ∙ ap (λ counters. with_innermost change counters name) (sym there)

  -- a change where it has none
  pub changed_anew : None ≡ innermost_place set name → set ++ with_value change new ∷ [] ≡ with_innermost change (with_counter is_replaced creator set name) name
  changed_anew e =
      let made : with_counter is_replaced creator set name ≡ set ++ new ∷ [] =
      ap (λ o. cond (is_some (option_and_then (slice_get set) o)) set (option_map_or (remove set) (cond (option_map_or is_replaced (option_and_then (slice_get set) o) false) o None) set ++ new ∷ [])) (sym e) in
      let named : is_named name new ≡ true = (bytes_eq-Decides name name).1 refl in
      let place : innermost_place (set ++ new ∷ []) name ≡ Some (length set) =
      last_place-push (is_named name) set new ∙ ap (λ b. cond b (Some (length set)) (innermost_place set name)) named in
      sym (change_at_last (with_value change) set new)
      ∙ sym (ap (λ o. option_map_or (change_at (with_value change) (set ++ new ∷ [])) o (set ++ new ∷ [])) place)
      ∙ ap (λ counters. with_innermost change counters name) (sym made)

-- The innermost counter is at its place.

within_one_more : (o : Option ℕ) (passes : Bool) (n place : ℕ) → ((p : ℕ) → o ≡ Some p → p < n) → option_map_or (λ p. Some (suc p)) o (cond passes (Some 0) None) ≡ Some place → place < suc n
within_one_more (Some p) passes n place h e = let at : suc p ≡ place = cc in omega (arith, h p refl)
within_one_more None true n place h e = let at : 0 ≡ place = cc in omega arith
within_one_more None false n place h e = absurd (cc)

pub last_place_within : {X : Type 0} (test : X → Bool) (xs : List X) (place : ℕ) → last_place test xs ≡ Some place → place < length xs
last_place_within test [] place e = absurd (cc)
last_place_within test (x ∷ xs) place e = within_one_more (last_place test xs) (test x) (length xs) place (λ p f. last_place_within test xs p f) e

none_there : (set : List Counter) (o : Option ℕ) → ((place : ℕ) → o ≡ Some place → place < length set) → option_and_then (slice_get set) o ≡ None → o ≡ None
none_there set None within h = refl
none_there [] (Some place) within h = absurd (omega (arith, within place refl))
none_there (c ∷ set) (Some place) within h = let there = slice_get-get_or (c ∷ set) place c (within place refl) in absurd (cc)

pub innermost_none : (set : List Counter) (name : List ℕ) → innermost set name ≡ None → innermost_place set name ≡ None
innermost_none set name h = none_there set (innermost_place set name) (λ place e. last_place_within (is_named name) set place e) h
