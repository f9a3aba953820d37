-- The starts that the entries of `counter-reset` ask for.
use Rattle.std.proofs.Common.{◌≡◌, ◌∙◌, ◌+◌, ◌<◌, ◌∷◌, ℕ, ℤ, Bool, true, false, List, Option, ap, cond, drop, get_or, inl, inr, length, not, map, refl, sym, true≢false}
use Rattle.std.specs.Prelude.{◌&&◌, filter, is_some}
use Rattle.plain_types.specs.declared.box_id.BoxId.{BoxId}
use Rattle.plain_types.specs.declared.style.ResetOp.{ResetOp}
use Rattle.std.specs.Str.{bytes_eq}
use Rattle.std.proofs.lemmas.Bool.{cases_Bool}
use Rattle.counter_sets.specs.ByNames.{is_at}
use Rattle.counter_sets.specs.Sets.{last_place}
use Rattle.box_eval.specs.declared.inputs.Start.{Start}
use Rattle.box_eval.specs.Properties.{last_resets}
use Rattle.box_eval.proofs.PlaceLemmas.{is_last, not_last}

module _ (start : BoxId → List ℕ → ℤ) (creator : BoxId) where
  abbrev pub start_for : ResetOp → Start
  start_for reset = record { creator = creator; name = reset.name; value = start creator reset.name }

  abbrev pub starts_for : List ResetOp → List Start
  starts_for resets = map start_for (filter (λ (reset : ResetOp). reset.reversed && not (is_some reset.value)) (last_resets resets))

  abbrev asks : ResetOp → Bool
  asks reset = reset.reversed && not (is_some reset.value)

  both_left : (a b : Bool) → (a && b) ≡ true → a ≡ true
  both_left true b h = refl
  both_left false b h = h

  both_right : (a b : Bool) → (a && b) ≡ true → b ≡ true
  both_right true b h = h
  both_right false b h = absurd (true≢false (sym h))

  -- The entry at a place.
  module _ (resets : List ResetOp) (place : ℕ) (reset : ResetOp) (below : place < length resets) (read : reset ≡ get_or resets place reset) (found : Option ℕ) (finds : found ≡ last_place (λ (other : ResetOp). bytes_eq other.name reset.name) resets) where
    abbrev name_of : ResetOp → List ℕ
    name_of op = op.name

    shown : (ask : Bool) → asks reset ≡ ask → is_at found place ≡ true → starts_for (drop place resets) ≡ map start_for (cond ask (reset ∷ filter asks (last_resets (drop (place + 1) resets))) (filter asks (last_resets (drop (place + 1) resets))))
    shown ask e last =
        ap (λ ops. map start_for (filter asks ops)) (is_last name_of resets place reset below read found finds last)
        ∙ ap (λ b. map start_for (cond b (reset ∷ filter asks (last_resets (drop (place + 1) resets))) (filter asks (last_resets (drop (place + 1) resets))))) e

    pub start_needed : (is_at found place && asks reset) ≡ true → starts_for (drop place resets) ≡ start_for reset ∷ starts_for (drop (place + 1) resets)
    start_needed h = shown true (both_right (is_at found place) (asks reset) h) (both_left (is_at found place) (asks reset) h)

    pub start_skipped : (is_at found place && asks reset) ≡ false → starts_for (drop place resets) ≡ starts_for (drop (place + 1) resets)
    start_skipped h = elim (cases_Bool (is_at found place)) [
      | inl last ↦ shown false (sym (ap (λ b. b && asks reset) last) ∙ h) last
      | inr again ↦ ap (λ ops. map start_for (filter asks ops)) (not_last name_of resets place reset below read found finds again)
    ]
