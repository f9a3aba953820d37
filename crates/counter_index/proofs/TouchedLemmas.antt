-- What is found by looking at the elements that were exchanged is enough.
use Rattle.std.proofs.Common.{◌≡◌, ◌==◌, ◌++◌, ◌∷◌, ◌&&◌, ◌||◌, ◌⊎◌, ℕ, Bool, true, false, All, List, [], Option, Some, None, ℤ, cond, length, inl, inr, refl, sym, ap, ◌∙◌, arith, eqb-true, eq-eqb}
use Rattle.std.specs.Prelude.{flat_map, option_map, unwrap_or}
use Rattle.std.specs.List.{list_all, zip}
use Rattle.std.specs.Bool.{Decides}
use Rattle.std.specs.Option.{option_eq}
use Rattle.std.specs.Ordering.{int_eq}
use Rattle.std.specs.Str.{bytes_eq}
use Rattle.std.proofs.lemmas.Bool.{and_parts, cases_Bool}
use Rattle.std.proofs.lemmas.Bool.Decides.{Decides-int_eq}
use Rattle.std.proofs.lemmas.List.Elements.{All-cons, All-nil, All-weaker}
use Rattle.std.proofs.lemmas.List.Folds.{list_any-append}
use Rattle.std.proofs.lemmas.Option.{same_Some}
use Rattle.std.proofs.lemmas.Slice.Eq.{bytes_eq-Decides, slice_eq-Decides}
use Rattle.counter_sets.specs.Sets.{is_same_box}
use Rattle.reversed_start.specs.declared.event.Event.{Event}
use Rattle.box_eval.specs.declared.change.Change.{Change}
use Rattle.box_eval.specs.declared.inputs.Start.{Start}
use Rattle.box_eval.specs.Starts.{events_of}
use Rattle.box_eval.proofs.BoxLemmas.{box_self, box_eq}
use Rattle.merged_walk.specs.Entries.{first_at}
use Rattle.edit_work.specs.Counters.{Identity, is_same_event}
use Rattle.edit_work.specs.KeyedSources.{is_among}
use Rattle.start_reach.specs.Deeds.{AreAlike, IsIdle, events_after, events_before}
use Rattle.counter_index.specs.declared.deeds.CounterDeeds.{CounterDeeds}
use Rattle.counter_index.specs.declared.index.CounterIndex.{CounterIndex}
use Rattle.counter_index.specs.Indexes.{asked_at, asked_by, deeds_at, is_asked}
use Rattle.counter_index.specs.Touched.{AreTouched, IsUntouched, asking, asking_other, by_exchanged, by_moved, changes_after, changes_before, deeds_by, did, do_same, does, is_alike, touched_by, touched_in, touched_keys}
use Rattle.edit_work.specs.Inputs.{are_same_starts, is_same_start}
use Rattle.counter_index.proofs.ListLemmas.{first-has}

-- Membership.

among-first : (keys others : List ℕ) (key : ℕ) → is_among keys key ≡ true → is_among (keys ++ others) key ≡ true
among-first keys others key is = list_any-append (λ (other : ℕ). other == key) keys others ∙ ap (λ b. b || is_among others key) is

or-true : (b : Bool) → (b || true) ≡ true
or-true true = refl
or-true false = refl

among-rest : (keys others : List ℕ) (key : ℕ) → is_among others key ≡ true → is_among (keys ++ others) key ≡ true
among-rest keys others key is =
    list_any-append (λ (other : ℕ). other == key) keys others ∙ ap (λ b. is_among keys key || b) is ∙ or-true (is_among keys key)

among-itself : (key : ℕ) → is_among (key ∷ []) key ≡ true
among-itself key = ap (λ b. b || false) (eq-eqb key key refl)

-- What is true of each item, or a key is found by one.
module _ {X : Type 0} (found : X → List ℕ) (key : ℕ) (P : X → Type 0) where
  all-or-found : (items : List X) → ((item : X) → (is_among (found item) key ≡ true) ⊎ P item) → (is_among (flat_map found items) key ≡ true) ⊎ All P items
  all-or-found [] each = inr (All-nil P)
  all-or-found (item ∷ items) each =
      elim (each item) [
        | inl is ↦ inl (among-first (found item) (flat_map found items) key is)
        | inr has ↦ elim (all-or-found items each) [
          | inl is ↦ inl (among-rest (found item) (flat_map found items) key is)
          | inr all ↦ inr (All-cons P item items has all)
        ]
      ]

-- Events and starts are compared as they are.
option-decides : (one other : Option ℤ) → Decides (option_eq int_eq one other) (one ≡ other)
option-decides None None = (λ _. refl, λ _. refl)
option-decides None (Some value) = (λ e. absurd (cc), λ e. absurd (cc))
option-decides (Some value) None = (λ e. absurd (cc), λ e. absurd (cc))
option-decides (Some value) (Some other) = (λ e. ap (λ (v : ℤ). Some v) ((Decides-int_eq value other).0 e), λ e. (Decides-int_eq value other).1 (same_Some _ _ e))

both : (a b : Bool) → a ≡ true → b ≡ true → (a && b) ≡ true
both a b p q = rw (p, q) refl

event-decides : (one other : Event) → Decides (is_same_event one other) (one ≡ other)
event-decides one other =
    let by = Decides-int_eq one.by other.by in
    let assigned = option-decides one.assigned other.assigned in (
      λ e.
          let parts = and_parts (int_eq one.by other.by) (option_eq int_eq one.assigned other.assigned) e in
          let first = by.0 parts.0 in
          let second = assigned.0 parts.1 in
          λ i. record { by = first i; assigned = second i },
      λ e. both (int_eq one.by other.by) (option_eq int_eq one.assigned other.assigned) (by.1 (ap (λ (event : Event). event.by) e)) (assigned.1 (ap (λ (event : Event). event.assigned) e)),
    )

pub start-decides : (one other : Start) → Decides (is_same_start one other) (one ≡ other)
start-decides one other =
    let names = bytes_eq-Decides one.name other.name in
    let values = Decides-int_eq one.value other.value in
    let rest : Bool = bytes_eq one.name other.name && int_eq one.value other.value in (
      λ e.
          let parts = and_parts (is_same_box one.creator other.creator) rest e in
          let later = and_parts (bytes_eq one.name other.name) (int_eq one.value other.value) parts.1 in
          let creator = box_eq one.creator other.creator parts.0 in
          let name = names.0 later.0 in
          let value = values.0 later.1 in
          λ i. record { creator = creator i; name = name i; value = value i },
      λ e.
          both (is_same_box one.creator other.creator) rest
          (ap (λ (start : Start). is_same_box start.creator other.creator) e ∙ box_self other.creator)
          (both (bytes_eq one.name other.name) (int_eq one.value other.value) (names.1 (ap (λ (start : Start). start.name) e)) (values.1 (ap (λ (start : Start). start.value) e))),
    )

pub starts-decide : (starts others : List Start) → Decides (are_same_starts starts others) (starts ≡ others)
starts-decide starts others = slice_eq-Decides start-decides starts others (are_same_starts starts others) refl

-- lists that are as long are compared pair by pair
abbrev pub is_same_pair : Start × Start → Bool
is_same_pair pair = is_same_start pair.0 pair.1

pub pairs-same : (starts others : List Start) → length starts ≡ length others → list_all is_same_pair (zip starts others) ≡ are_same_starts starts others
pairs-same [] [] long = refl
pairs-same [] (other ∷ others) long = absurd (omega (arith, long))
pairs-same (start ∷ starts) [] long = absurd (omega (arith, long))
pairs-same (start ∷ starts) (other ∷ others) long = ap (λ rest. is_same_start start other && rest) (pairs-same starts others (omega (arith, long)))

both-false : (b c : Bool) → (b ≡ true → ⊥) → (c ≡ true → ⊥) → b ≡ c
both-false true c first second = absurd (first refl)
both-false false true first second = absurd (second refl)
both-false false false first second = refl

pub other-lengths : (starts others : List Start) → (length starts ≡ length others → ⊥) → (length starts == length others) ≡ are_same_starts starts others
other-lengths starts others apart =
    both-false (length starts == length others) (are_same_starts starts others) (λ same. apart (eqb-true (length starts) (length others) same))
    (λ same. apart (ap length ((starts-decide starts others).0 same)))

-- The events of a counter.
module _ (counter : Identity) where
  abbrev its : List Change → List Event
  its changes = events_of changes counter.creator counter.name

  -- a change is to the counter
  abbrev is_its : Change → Bool
  is_its change = is_same_box change.creator counter.creator && bytes_eq change.name counter.name

  same-creator : (change : Change) → is_its change ≡ true → change.creator ≡ counter.creator
  same-creator change is = box_eq change.creator counter.creator (and_parts (is_same_box change.creator counter.creator) (bytes_eq change.name counter.name) is).0

  same-name : (change : Change) → is_its change ≡ true → change.name ≡ counter.name
  same-name change is =
      (bytes_eq-Decides change.name counter.name).0 (and_parts (is_same_box change.creator counter.creator) (bytes_eq change.name counter.name) is).1

  -- changes do nothing to it, or its creator is found by one of them, where each change to it finds that
  idle-or-found : (found : Change → List ℕ) → ((change : Change) → is_its change ≡ true → is_among (found change) counter.creator.key ≡ true)
      → (changes : List Change) → (is_among (flat_map found changes) counter.creator.key ≡ true) ⊎ (its changes ≡ [])
  idle-or-found found finds [] = inr refl
  idle-or-found found finds (change ∷ changes) =
      elim (cases_Bool (is_its change)) [
        | inl is ↦ inl (among-first (found change) (flat_map found changes) counter.creator.key (finds change is))
        | inr other ↦ elim (idle-or-found found finds changes) [
          | inl is ↦ inl (among-rest (found change) (flat_map found changes) counter.creator.key is)
          | inr idle ↦ inr (rw other idle)
        ]
      ]

  same-its : (changes others : List Change) → do_same counter.creator counter.name changes others ≡ true → its changes ≡ its others
  same-its changes others is = (slice_eq-Decides event-decides (its changes) (its others) (do_same counter.creator counter.name changes others) refl).0 is

  -- what is kept of an element, as what it does
  before-is : (deeds : Option CounterDeeds) → events_before counter (option_map deeds_by deeds) ≡ its (changes_before deeds)
  before-is None = refl
  before-is (Some deeds) = refl

  after-is : (deeds : Option CounterDeeds) → events_after counter (option_map deeds_by deeds) ≡ its (changes_after deeds)
  after-is None = refl
  after-is (Some deeds) = refl

  alike-told : (now was : Option CounterDeeds) → is_alike counter.creator counter.name now was ≡ true
      → AreAlike counter (option_map deeds_by now) (option_map deeds_by was)
  alike-told now was is =
      let parts = and_parts (do_same counter.creator counter.name (changes_before now) (changes_before was)) (do_same counter.creator counter.name (changes_after now) (changes_after was)) is in
      record {
        before_children = before-is now ∙ same-its (changes_before now) (changes_before was) parts.0 ∙ sym (before-is was);
        after_children = after-is now ∙ same-its (changes_after now) (changes_after was) parts.1 ∙ sym (after-is was);
      }

  alike-itself : (deeds : Option CounterDeeds) → AreAlike counter (option_map deeds_by deeds) (option_map deeds_by deeds)
  alike-itself deeds = record { before_children = refl; after_children = refl }

  abbrev DoNothing : Option CounterDeeds → Type 0
  DoNothing deeds = (its (changes_before deeds) ≡ []) × (its (changes_after deeds) ≡ [])

  idle-told : (deeds : Option CounterDeeds) → DoNothing deeds → IsIdle counter (option_map deeds_by deeds)
  idle-told deeds none = record { before_children = before-is deeds ∙ none.0; after_children = after-is deeds ∙ none.1 }

  both-idle : (now was : Option CounterDeeds) → DoNothing now → DoNothing was → AreAlike counter (option_map deeds_by now) (option_map deeds_by was)
  both-idle now was none before = record {
    before_children = before-is now ∙ none.0 ∙ sym before.0 ∙ sym (before-is was);
    after_children = after-is now ∙ none.1 ∙ sym before.1 ∙ sym (after-is was);
  }

  module _ (index : CounterIndex) (asked : is_asked index counter.creator counter.name ≡ true) where
    abbrev is_found : List ℕ → Type 0
    is_found keys = is_among keys counter.creator.key ≡ true

    asking-finds : (change : Change) → is_its change ≡ true → is_found (asking index change)
    asking-finds change is =
        ap (λ creator. is_among (cond (is_asked index creator change.name) (creator.key ∷ []) []) counter.creator.key) (same-creator change is)
        ∙ ap (λ name. is_among (cond (is_asked index counter.creator name) (counter.creator.key ∷ []) []) counter.creator.key) (same-name change is)
        ∙ ap (λ b. is_among (cond b (counter.creator.key ∷ []) []) counter.creator.key) asked
        ∙ among-itself counter.creator.key

    touched-finds : (now was : Option CounterDeeds) → is_alike counter.creator counter.name now was ≡ false
        → (change : Change) → is_its change ≡ true → is_found (touched_by index now was change)
    touched-finds now was other change is =
        let own : List ℕ = asking index change in
        ap (λ creator. is_among (cond (is_alike creator change.name now was) [] own) counter.creator.key) (same-creator change is)
        ∙ ap (λ name. is_among (cond (is_alike counter.creator name now was) [] own) counter.creator.key) (same-name change is)
        ∙ ap (λ b. is_among (cond b [] own) counter.creator.key) other
        ∙ asking-finds change is

    -- what an element does before its children and after them
    found-in : (found : Change → List ℕ) → ((change : Change) → is_its change ≡ true → is_found (found change)) → (deeds : Option CounterDeeds)
        → is_found (flat_map found (changes_before deeds) ++ flat_map found (changes_after deeds)) ⊎ DoNothing deeds
    found-in found finds deeds =
        elim (idle-or-found found finds (changes_before deeds)) [
          | inl is ↦ inl (among-first (flat_map found (changes_before deeds)) (flat_map found (changes_after deeds)) counter.creator.key is)
          | inr before ↦ elim (idle-or-found found finds (changes_after deeds)) [
            | inl is ↦ inl (among-rest (flat_map found (changes_before deeds)) (flat_map found (changes_after deeds)) counter.creator.key is)
            | inr after ↦ inr (before, after)
          ]
        ]

    abbrev IsAlikeEntry : ℕ × Option CounterDeeds → Type 0
    IsAlikeEntry entry = AreAlike counter (option_map deeds_by (deeds_at index entry.0)) (option_map deeds_by entry.1)

    exchanged-found : (entry : ℕ × Option CounterDeeds) → is_found (by_exchanged index entry) ⊎ IsAlikeEntry entry
    exchanged-found entry =
        let now : Option CounterDeeds = deeds_at index entry.0 in
        let was : Option CounterDeeds = entry.1 in
        let own : List ℕ = asking_other entry.0 now was in
        let nows : List ℕ = touched_in index now was now in
        let others : List ℕ = touched_in index now was was in
        elim (cases_Bool (is_alike counter.creator counter.name now was)) [
          | inl same ↦ inr (alike-told now was same)
          | inr other ↦ elim (found-in (touched_by index now was) (touched-finds now was other) now) [
            | inl is ↦ inl (among-rest own (nows ++ others) counter.creator.key (among-first nows others counter.creator.key is))
            | inr none ↦ elim (found-in (touched_by index now was) (touched-finds now was other) was) [
              | inl is ↦ inl (among-rest own (nows ++ others) counter.creator.key (among-rest nows others counter.creator.key is))
              | inr before ↦ inr (both-idle now was none before)
            ]
          ]
        ]

    moved-found : (key : ℕ) → is_found (by_moved index key) ⊎ IsIdle counter (option_map deeds_by (deeds_at index key))
    moved-found key =
        elim (found-in (asking index) asking-finds (deeds_at index key)) [
          | inl is ↦ inl is
          | inr none ↦ inr (idle-told (deeds_at index key) none)
        ]

    module _ (former : List (ℕ × Option CounterDeeds)) (moved : List ℕ) where
      alike-first : All IsAlikeEntry former → (key : ℕ) (first : Option (Option CounterDeeds)) → first_at former key ≡ first
          → AreAlike counter (option_map deeds_by (deeds_at index key)) (option_map deeds_by (unwrap_or first (deeds_at index key)))
      alike-first all key None at = alike-itself (deeds_at index key)
      alike-first all key (Some kept) at = first-has IsAlikeEntry former all key kept at

      was-idle : ((key : ℕ) → AreAlike counter (does former moved index key) (did former moved index key)) → (key : ℕ)
          → IsIdle counter (option_map deeds_by (deeds_at index key)) → IsIdle counter (did former moved index key)
      was-idle alike key idle =
          let same = alike key in
          record { before_children = sym same.before_children ∙ idle.before_children; after_children = sym same.after_children ∙ idle.after_children }

      untouched : All IsAlikeEntry former → All (λ (key : ℕ). IsIdle counter (option_map deeds_by (deeds_at index key))) moved → IsUntouched former moved index counter
      untouched all idle =
          let alike : (key : ℕ) → AreAlike counter (does former moved index key) (did former moved index key) = λ key. alike-first all key (first_at former key) refl in
          record { alike = alike; idle = All-weaker _ _ (was-idle alike) moved idle }

      others-found : is_found (touched_keys index former moved) ⊎ IsUntouched former moved index counter
      others-found =
          let exchanged : List ℕ = flat_map (by_exchanged index) former in
          let gone : List ℕ = flat_map (by_moved index) moved in
          elim (all-or-found (by_exchanged index) counter.creator.key IsAlikeEntry former exchanged-found) [
            | inl is ↦ inl (among-first exchanged gone counter.creator.key is)
            | inr all ↦ elim (all-or-found (by_moved index) counter.creator.key (λ (key : ℕ). IsIdle counter (option_map deeds_by (deeds_at index key))) moved moved-found) [
              | inl is ↦ inl (among-rest exchanged gone counter.creator.key is)
              | inr idle ↦ inr (untouched all idle)
            ]
          ]

-- Elements that ask for other starts than before.
module _ (index : CounterIndex) where
  abbrev HasSameAsked : ℕ × Option CounterDeeds → Type 0
  HasSameAsked entry = asked_at index entry.0 ≡ asked_by entry.1

  asking-found : (entry : ℕ × Option CounterDeeds) (same : Bool) → are_same_starts (asked_at index entry.0) (asked_by entry.1) ≡ same
      → (is_among (cond same [] (entry.0 ∷ [])) entry.0 ≡ true) ⊎ HasSameAsked entry
  asking-found entry true is = inr ((starts-decide (asked_at index entry.0) (asked_by entry.1)).0 is)
  asking-found entry false is = inl (among-itself entry.0)

  own-found : (entry : ℕ × Option CounterDeeds) → (is_among (by_exchanged index entry) entry.0 ≡ true) ⊎ HasSameAsked entry
  own-found entry =
      let now : Option CounterDeeds = deeds_at index entry.0 in
      elim (asking-found entry (are_same_starts (asked_at index entry.0) (asked_by entry.1)) refl) [
        | inl is ↦ inl (among-first (asking_other entry.0 now entry.1) (touched_in index now entry.1 now ++ touched_in index now entry.1 entry.1) entry.0 is)
        | inr same ↦ inr same
      ]

  abbrev IsFoundOr : List ℕ → ℕ × Option CounterDeeds → Type 0
  IsFoundOr keys entry = (is_among keys entry.0 ≡ true) ⊎ HasSameAsked entry

  found-later : (first : List ℕ) (keys : List ℕ) (entry : ℕ × Option CounterDeeds) → IsFoundOr keys entry → IsFoundOr (first ++ keys) entry
  found-later first keys entry has =
      elim has [
        | inl is ↦ inl (among-rest first keys entry.0 is)
        | inr same ↦ inr same
      ]

  found-first : (keys : List ℕ) (others : List ℕ) (entry : ℕ × Option CounterDeeds) → IsFoundOr keys entry → IsFoundOr (keys ++ others) entry
  found-first keys others entry has =
      elim has [
        | inl is ↦ inl (among-first keys others entry.0 is)
        | inr same ↦ inr same
      ]

  each-found : (former : List (ℕ × Option CounterDeeds)) → All (IsFoundOr (flat_map (by_exchanged index) former)) former
  each-found [] = All-nil (IsFoundOr [])
  each-found (entry ∷ former) =
      let own : List ℕ = by_exchanged index entry in
      let rest : List ℕ = flat_map (by_exchanged index) former in
      All-cons (IsFoundOr (own ++ rest)) entry former (found-first own rest entry (own-found entry))
      (All-weaker (IsFoundOr rest) (IsFoundOr (own ++ rest)) (found-later own rest) former (each-found former))

  own-first : (former : List (ℕ × Option CounterDeeds)) (keys : List ℕ) → All (IsFoundOr keys) former → (key : ℕ) (first : Option (Option CounterDeeds)) → first_at former key ≡ first
      → (is_among keys key ≡ true) ⊎ (asked_at index key ≡ asked_by (unwrap_or first (deeds_at index key)))
  own-first former keys all key None at = inr refl
  own-first former keys all key (Some kept) at = first-has (IsFoundOr keys) former all key kept at

  -- where these keys are those that are found
  pub enough : (former : List (ℕ × Option CounterDeeds)) (moved keys : List ℕ) → ((key : ℕ) → is_among keys key ≡ is_among (touched_keys index former moved) key)
      → AreTouched former moved index keys
  enough former moved keys same =
      let exchanged : List ℕ = flat_map (by_exchanged index) former in
      let gone : List ℕ = flat_map (by_moved index) moved in
      let all : All (IsFoundOr (exchanged ++ gone)) former =
      All-weaker (IsFoundOr exchanged) (IsFoundOr (exchanged ++ gone)) (λ entry has. found-first exchanged gone entry has) former (each-found former) in
      record {
        others = λ counter asked.
            elim (others-found counter index asked former moved) [
              | inl is ↦ inl (same counter.creator.key ∙ is)
              | inr untouched ↦ inr untouched
            ];
        own = λ key.
            elim (own-first former (exchanged ++ gone) all key (first_at former key) refl) [
              | inl is ↦ inl (same key ∙ is)
              | inr asked ↦ inr asked
            ];
      }
