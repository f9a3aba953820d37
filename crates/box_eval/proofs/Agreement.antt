-- By the peers of a box and by its parent's set a new counter replaces the same counters.
use Rattle.std.proofs.Common.{◌≡◌, ◌++◌, ◌∷◌, ℕ, List, [], false, true, cond, Option, Some, None, remove, refl, sym, ap, ◌∙◌, ℤ, pos}
use Rattle.std.specs.Prelude.{is_some, slice_get, unwrap_or}
use Rattle.std.specs.List.{AllByRecursion}
use Rattle.std.specs.Option.{option_and_then, option_map_or}
use Rattle.plain_types.specs.declared.box_id.BoxId.{BoxId}
use Rattle.plain_types.specs.declared.counter.Counter.{Counter}
use Rattle.counter_sets.specs.Sets.{inherited, innermost, innermost_place, instantiated, is_by_peer, is_missing_in, replaced_place, with_counter}
use Rattle.box_eval.specs.Scopes.{HasNoneOf}
use Rattle.box_eval.proofs.BoxLemmas.{none_missing}
use Rattle.box_eval.proofs.KeptLemmas.{inherited_good}
use Rattle.box_eval.proofs.ListLemmas.{each_both, each_get, each_imp}

module _ (peers : List BoxId) (parent : List Counter) where
  abbrev pub Agrees : Counter → Type 0
  Agrees counter = is_by_peer peers counter ≡ is_missing_in parent counter

  abbrev pub AllAgree : List Counter → Type 0
  AllAgree set = AllByRecursion Agrees set

  pub steady : (counter : Counter) (value : ℤ) → Agrees counter → Agrees (record counter { value = value })
  steady counter value h = h

  parent_agrees : HasNoneOf peers parent → AllAgree parent
  parent_agrees none =
      each_imp (λ counter. (is_by_peer peers counter ≡ false) × (is_missing_in parent counter ≡ false)) Agrees (λ counter h. h.0 ∙ sym h.1) parent
      (each_both (λ counter. is_by_peer peers counter ≡ false) (λ counter. is_missing_in parent counter ≡ false) parent none (none_missing parent))

  -- what is inherited, where no peer created a counter of the parent, and peers created what the sibling has besides
  pub inherited_agrees : (sibling preceding : Option (List Counter)) → HasNoneOf peers parent → AllByRecursion (λ counter. is_missing_in parent counter ≡ true → is_by_peer peers counter ≡ true) (unwrap_or sibling []) → AllAgree (inherited parent sibling preceding)
  inherited_agrees sibling preceding none new =
      inherited_good Agrees steady parent sibling preceding (parent_agrees none)
      (each_imp (λ counter. is_missing_in parent counter ≡ true → is_by_peer peers counter ≡ true) (λ counter. is_missing_in parent counter ≡ true → Agrees counter) (λ counter h e. h e ∙ sym e) (unwrap_or sibling []) new)

  at_place : (set : List Counter) (counter : Counter) (place : Option ℕ) → option_and_then (slice_get set) place ≡ Some counter → AllAgree set → Agrees counter
  at_place set counter None e h = absurd (cc)
  at_place set counter (Some place) e h = each_get Agrees set place counter e h

  tests_same : (found : Option Counter) → ((counter : Counter) → found ≡ Some counter → Agrees counter) → option_map_or (is_by_peer peers) found false ≡ option_map_or (is_missing_in parent) found false
  tests_same None h = refl
  tests_same (Some counter) h = h counter refl

  replaced_same : (set : List Counter) (name : List ℕ) → AllAgree set → replaced_place (is_by_peer peers) set name ≡ replaced_place (is_missing_in parent) set name
  replaced_same set name h =
      ap (λ test. cond test (innermost_place set name) None) (tests_same (innermost set name) (λ counter e. at_place set counter (innermost_place set name) e h))

  pub instantiated_same : (set : List Counter) (counter : Counter) → AllAgree set → instantiated (is_by_peer peers) set counter ≡ instantiated (is_missing_in parent) set counter
  instantiated_same set counter h = ap (λ place. option_map_or (remove set) place set ++ counter ∷ []) (replaced_same set counter.name h)

  pub with_counter_same : (box : BoxId) (set : List Counter) (name : List ℕ) → AllAgree set → with_counter (is_by_peer peers) box set name ≡ with_counter (is_missing_in parent) box set name
  with_counter_same box set name h =
      let new : Counter = record { name = name; creator = box; reversed = false; value = pos 0 } in
      ap (λ other. cond (is_some (innermost set name)) set other) (instantiated_same set new h)
