-- What elements were handed before their changes, and what is held once it comes to what is kept of them.
use Rattle.std.proofs.Common.{◌≡◌, ◌==◌, ◌<◌, ◌⊎◌, ◌+◌, ◌++◌, ◌∷◌, ◌∙◌, ℕ, Bool, true, false, cond, List, [], Option, Some, None, drop, get_or, length, set, take, refl, sym, ap, subst, arith, append_assoc, inl, inr, eqb-true, eq-eqb}
use Rattle.std.specs.Prelude.{Contains, nat_lt}
use Rattle.std.specs.FinMap.{FinMap, get}
use Rattle.std.specs.Option.{option_or}
use Rattle.std.specs.Ordering.{nat_cmp}
use Rattle.std.proofs.lemmas.Bool.{cases_Bool}
use Rattle.std.proofs.lemmas.List.{drop_more, drop-set-lt, length-map, take_more_set}
use Rattle.std.proofs.lemmas.List.Elements.{Contains-append_cases}
use Rattle.std.proofs.lemmas.Option.{none-some}
use Rattle.std.proofs.Math.ListN.{length-set}
use Rattle.surroundings.specs.declared.walked.Walked.{Walked}
use Rattle.zero_walks.specs.Missing.{put_missing}
use Rattle.zero_walks.proofs.MissingLemmas.{missing-put}
use Rattle.kept_elements.specs.declared.kept.Kept.{Kept}
use Rattle.kept_elements.specs.declared.kept_change.KeptChange.{KeptChange}
use Rattle.kept_elements.specs.Changes.{AreBelow, TellShown, TellWere, puts_of, walked_at}
use Rattle.kept_elements.proofs.RenewalLemmas.{later, the_one}
use Rattle.merged_walk.proofs.EntryLaws.{contains-first}
use Rattle.started_walk.specs.Settled.{saved, without_was, without_were}

-- Without what elements were handed before, changes are what they were.

pub puts-stay : (changes : List (ℕ × KeptChange)) → puts_of (without_were changes) ≡ puts_of changes
puts-stay [] = refl
puts-stay (change ∷ changes) = ap (λ (puts : List (ℕ × Kept)). (change.0, change.1.kept) ∷ puts) (puts-stay changes)

pub shown-stay : (held : FinMap nat_cmp Kept) (changes : List (ℕ × KeptChange)) → TellShown held changes → TellShown held (without_were changes)
shown-stay held [] shown = tt
shown-stay held (change ∷ changes) shown = (shown.0, shown-stay held changes shown.1)

pub length-stays : (changes : List (ℕ × KeptChange)) → length (without_were changes) ≡ length changes
length-stays changes = length-map changes without_was

pub below-stay : (room : ℕ) (changes : List (ℕ × KeptChange)) → AreBelow room changes → AreBelow room (without_were changes)
below-stay room [] below = tt
below-stay room (change ∷ changes) below = (below.0, below-stay room changes below.1)

-- What an element was handed before its changes.

-- the first of them that tells it
abbrev pub was_at : List (ℕ × KeptChange) → ℕ → Option Walked
was_at [] key = None
was_at (change ∷ changes) key = option_or (cond (change.0 == key) change.1.was None) (was_at changes key)

both-saved : (held first later : Option Walked) (has_room : Bool)
    → option_or (option_or held (cond has_room first None)) (cond has_room later None) ≡ option_or held (cond has_room (option_or first later) None)
both-saved None first later true = refl
both-saved None first later false = refl
both-saved (Some it) first later has_room = refl

no-more : (held : Option Walked) (has_room : Bool) → held ≡ option_or held (cond has_room None None)
no-more None true = refl
no-more None false = refl
no-more (Some it) has_room = refl

-- it is held, where nothing is held of the element and there is room
pub saved-is : (room : ℕ) (changes : List (ℕ × KeptChange)) (held : FinMap nat_cmp Walked) (key : ℕ)
    → get (saved room changes held) key ≡ option_or (get held key) (cond (nat_lt key room) (was_at changes key) None)
saved-is room [] held key = no-more (get held key) (nat_lt key room)
saved-is room (change ∷ changes) held key =
    saved-is room changes (put_missing room change.0 change.1.was held) key
    ∙ ap (λ own. option_or own (cond (nat_lt key room) (was_at changes key) None)) (missing-put room change.0 change.1.was held key)
    ∙ both-saved (get held key) (cond (change.0 == key) change.1.was None) (was_at changes key) (nat_lt key room)

first-none : (one other : Option Walked) → option_or one other ≡ None → one ≡ None
first-none None other is = refl
first-none (Some it) other is = absurd (none-some it (sym is))

other-none : (one other : Option Walked) → option_or one other ≡ None → other ≡ None
other-none None other is = is
other-none (Some it) other is = absurd (none-some it (sym is))

module _ (key : ℕ) where
  -- where it is told, the element comes to be kept otherwise
  pub was-comes : (changes : List (ℕ × KeptChange)) (was : Walked) → was_at changes key ≡ Some was → (kept : Kept) × Contains (puts_of changes) (key, kept)
  was-comes [] was is = absurd (none-some was is)
  was-comes (change ∷ changes) was is = by (cases_Bool (change.0 == key)) (was-comes changes was)
    where
      by : ((change.0 == key) ≡ true) ⊎ ((change.0 == key) ≡ false) → (was_at changes key ≡ Some was → (kept : Kept) × Contains (puts_of changes) (key, kept))
          → (kept : Kept) × Contains (puts_of (change ∷ changes)) (key, kept)
      by (inl here) rest = (
        change.1.kept,
        subst (λ (k : ℕ). Contains (puts_of (change ∷ changes)) (k, change.1.kept)) (eqb-true change.0 key here) (contains-first (change.0, change.1.kept) (puts_of changes)),
      )
      by (inr other) rest =
          let found = rest (ap (λ b. option_or (cond b change.1.was None) (was_at changes key)) (sym other) ∙ is) in
          (found.0, later (change.0, change.1.kept) (key, found.0) (puts_of changes) found.1)

  module _ (held : FinMap nat_cmp Kept) where
    -- it is what a board holds, where the changes tell that
    pub was-held : (changes : List (ℕ × KeptChange)) → TellWere held changes → (was : Walked) → was_at changes key ≡ Some was → walked_at held key ≡ Some was
    was-held [] were was is = absurd (none-some was is)
    was-held (change ∷ changes) were was is = by (cases_Bool (change.0 == key)) (was-held changes were.1 was)
      where
        here-is : (o : Option Walked) → walked_at held key ≡ o → option_or o (was_at changes key) ≡ Some was → (was_at changes key ≡ Some was → walked_at held key ≡ Some was)
            → walked_at held key ≡ Some was
        here-is None same is rest = rest is
        here-is (Some it) same is rest = same ∙ is

        by : ((change.0 == key) ≡ true) ⊎ ((change.0 == key) ≡ false) → (was_at changes key ≡ Some was → walked_at held key ≡ Some was) → walked_at held key ≡ Some was
        by (inl here) rest =
            here-is change.1.was (ap (walked_at held) (sym (eqb-true change.0 key here)) ∙ sym were.0)
            (ap (λ b. option_or (cond b change.1.was None) (was_at changes key)) (sym here) ∙ is) rest
        by (inr other) rest = rest (ap (λ b. option_or (cond b change.1.was None) (was_at changes key)) (sym other) ∙ is)

    -- and where they tell none of an element that comes to be kept otherwise, nothing is held of it
    pub was-none : (changes : List (ℕ × KeptChange)) → TellWere held changes → was_at changes key ≡ None → (kept : Kept) → Contains (puts_of changes) (key, kept) → walked_at held key ≡ None
    was-none [] were none kept there = absurd (omega (arith, there.1))
    was-none (change ∷ changes) were none kept there = elim (Contains-append_cases ((change.0, change.1.kept) ∷ []) (puts_of changes) (key, kept) there) [
      | inl first ↦
          let same : change.0 ≡ key = ap (λ (one : ℕ × Kept). one.0) (the_one (change.0, change.1.kept) (key, kept) first) in
          ap (walked_at held) (sym same) ∙ sym were.0
          ∙ first-none change.1.was (was_at changes key) (ap (λ b. option_or (cond b change.1.was None) (was_at changes key)) (sym (eq-eqb change.0 key same)) ∙ none)
      | inr rest ↦ was-none changes were.1 (other-none (cond (change.0 == key) change.1.was None) (was_at changes key) none) kept rest
    ]

-- The turns of a loop over the changes.

pub record Saving (room : ℕ) (all : List (ℕ × KeptChange)) (were : FinMap nat_cmp Walked) (changes : List (ℕ × KeptChange)) (held : FinMap nat_cmp Walked) (place : ℕ) : Type 0 where
  pub as_many : length changes ≡ length all
  pub held_are : saved room (drop place changes) held ≡ saved room all were
  pub changes_are : take place changes ++ without_were (drop place changes) ≡ without_were all

module _ (room : ℕ) (all : List (ℕ × KeptChange)) (were : FinMap nat_cmp Walked) (changes : List (ℕ × KeptChange)) (held : FinMap nat_cmp Walked) (place : ℕ)
    (within : place < length all) (turn : Saving room all were changes held place) (default : ℕ × KeptChange) where
  abbrev change : ℕ × KeptChange
  change = get_or changes place default

  inside : place < length changes
  inside = omega (arith, turn.as_many)

  first_left : drop place changes ≡ change ∷ drop (place + 1) changes
  first_left = drop_more changes place default inside

  pub saved-turn : (its : ℕ) → its ≡ room → (kept : ℕ × KeptChange) (held' : FinMap nat_cmp Walked) → kept ≡ without_was change
      → held' ≡ put_missing its change.0 change.1.was held → Saving room all were (set changes place kept) held' (place + 1)
  saved-turn its same kept held' is put =
      let rest : List (ℕ × KeptChange) = drop (place + 1) changes in
      let left : drop (place + 1) (set changes place kept) ≡ rest = drop-set-lt (place + 1) changes place kept (omega arith) in
      record {
        as_many = length-set changes place kept ∙ turn.as_many;
        held_are =
            (λ i. saved room (left i) ((put ∙ ap (λ own. put_missing own change.0 change.1.was held) same) i))
            ∙ sym (ap (λ (l : List (ℕ × KeptChange)). saved room l held) first_left) ∙ turn.held_are;
        changes_are =
            ap (λ (l : List (ℕ × KeptChange)). take (place + 1) (set changes place kept) ++ without_were l) left
            ∙ ap (λ (l : List (ℕ × KeptChange)). l ++ without_were rest) (take_more_set changes place kept inside)
            ∙ append_assoc (take place changes) (kept ∷ []) (without_were rest)
            ∙ ap (λ (one : ℕ × KeptChange). take place changes ++ (one ∷ without_were rest)) is
            ∙ sym (ap (λ (l : List (ℕ × KeptChange)). take place changes ++ without_were l) first_left) ∙ turn.changes_are;
      }
