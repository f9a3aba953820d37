-- What a walk asks of a merge stands where what is reached goes and comes. Throughout, n is a node, c what is under it, r
-- what is after it, and m a merge.
use Rattle.std.proofs.Common.{◌≡◌, ◌||◌, ◌⊎◌, ℕ, Bool, true, false, refl, sym, ap, ◌∙◌, inl, inr}
use Rattle.merged_walk.specs.Merges.{Merge, End, Kept, Turned, Gone, Come, has_place, new_of}
use Rattle.surroundings.specs.MergedLevels.{AreAllLed, AreLeaves, HasLeaves}
use Rattle.styled_merge.specs.Reached.{reached}
use Rattle.styled_merge.proofs.ReachedLaws.{at_kept, at_turned}

pub either : (a b : Bool) → (a || b) ≡ true → (a ≡ true) ⊎ (b ≡ true)
either true b h = inl refl
either false b h = inr h

or-either : (a b : Bool) → (a ≡ true) ⊎ (b ≡ true) → (a || b) ≡ true
or-either true b h = refl
or-either false b (inl h) = absurd (cc)
or-either false b (inr h) = h

module _ {L : Type 0} (is_element : L → Bool) where
  no-text : {X : Type 0} (label : L) → is_element label ≡ true → is_element label ≡ false → X
  no-text label is not = absurd (let never : true ≡ false = sym is ∙ not in cc)

  new-leaves : (m : Merge L) → HasLeaves is_element m → AreLeaves is_element (new_of m)
  new-leaves End h = tt
  new-leaves (Kept n c r) h = (λ text. ap new_of (h.0 text), new-leaves c h.1, new-leaves r h.2)
  new-leaves (Turned was n c r) h = (λ text. no-text n.label h.1 text, new-leaves c h.3, new-leaves r h.4)
  new-leaves (Gone n c r) h = new-leaves r h
  new-leaves (Come n c r) h = (h.0, h.1, new-leaves r h.2)

  module _ (is_reached : ℕ → Bool) where
    pub leaves-reached : (m : Merge L) → HasLeaves is_element m → HasLeaves is_element (reached is_reached m)
    leaves-reached End h = tt
    leaves-reached (Kept n c r) h =
        elim (is_reached n.key) as (λ b. HasLeaves is_element (at_kept is_reached b n c r)) [
          | true ↦ (λ text. ap new_of (h.0 text), new-leaves c h.1, leaves-reached r h.2)
          | false ↦ (λ text. ap (reached is_reached) (h.0 text), leaves-reached c h.1, leaves-reached r h.2)
        ]
    leaves-reached (Turned was n c r) h =
        elim (is_reached was.key) as (λ b. HasLeaves is_element (at_turned is_reached b was n c r)) [
          | true ↦ (λ text. no-text n.label h.1 text, new-leaves c h.3, leaves-reached r h.4)
          | false ↦ (h.0, h.1, h.2, leaves-reached c h.3, leaves-reached r h.4)
        ]
    leaves-reached (Gone n c r) h = leaves-reached r h
    leaves-reached (Come n c r) h = (h.0, h.1, leaves-reached r h.2)

module _ {L : Type 0} (is_reached : ℕ → Bool) where
  pub place-reached : (m : Merge L) → has_place m ≡ true → has_place (reached is_reached m) ≡ true
  place-reached End h = h
  place-reached (Kept n c r) h =
      elim (is_reached n.key) as (λ b. has_place (at_kept is_reached b n c r) ≡ true) [
        | true ↦ refl
        | false ↦ or-either (has_place (reached is_reached c)) (has_place (reached is_reached r)) (elim (either (has_place c) (has_place r) h) [
          | inl below ↦ inl (place-reached c below)
          | inr beside ↦ inr (place-reached r beside)
        ])
      ]
  place-reached (Turned was n c r) h =
      elim (is_reached was.key) as (λ b. has_place (at_turned is_reached b was n c r) ≡ true) [
        | true ↦ refl
        | false ↦ refl
      ]
  place-reached (Gone n c r) h = refl
  place-reached (Come n c r) h = refl

  pub led-reached : (m : Merge L) → AreAllLed m → AreAllLed (reached is_reached m)
  led-reached End h = tt
  led-reached (Kept n c r) h =
      elim (is_reached n.key) as (λ b. AreAllLed (at_kept is_reached b n c r)) [
        | true ↦ led-reached r h.1
        | false ↦ (place-reached c h.0, led-reached r h.1)
      ]
  led-reached (Turned was n c r) h =
      elim (is_reached was.key) as (λ b. AreAllLed (at_turned is_reached b was n c r)) [
        | true ↦ led-reached r h
        | false ↦ led-reached r h
      ]
  led-reached (Gone n c r) h = led-reached r h
  led-reached (Come n c r) h = led-reached r h

  -- where all is reached, nothing is kept on the level
  pub all-led : ((key : ℕ) → is_reached key ≡ true) → (m : Merge L) → AreAllLed (reached is_reached m)
  all-led all End = tt
  all-led all (Kept n c r) =
      elim (is_reached n.key) as (λ b. is_reached n.key ≡ b → AreAllLed (at_kept is_reached b n c r)) [
        | true ↦ λ is. all-led all r
        | false ↦ λ not. absurd (let never : true ≡ false = sym (all n.key) ∙ not in cc)
      ] refl
  all-led all (Turned was n c r) =
      elim (is_reached was.key) as (λ b. AreAllLed (at_turned is_reached b was n c r)) [
        | true ↦ all-led all r
        | false ↦ all-led all r
      ]
  all-led all (Gone n c r) = all-led all r
  all-led all (Come n c r) = all-led all r
