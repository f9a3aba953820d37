use Rattle.std.proofs.Common.{◌≡◌, ◌==◌, ◌<◌, ◌+◌, ◌||◌, ◌∙◌, ℕ, true, false, List, [], ◌∷◌, ap, drop, get_or, inl, inr, length, sym, take}
use Rattle.std.proofs.lemmas.List.{take-append-drop, take_more}
use Rattle.edit_work.specs.KeyedSources.{is_among}
use Rattle.kept_elements.proofs.AgainLemmas.{or_right}
use Rattle.kept_elements.proofs.KeptTold.{left_among, right_among}
use Rattle.kept_elements.proofs.KeyWeights.{either_true}
use Rattle.kept_elements.proofs.held_elements.HeldElements.add_all.Goals as goal

-- what stands among the first of them does among all
among_first : (keys : List ℕ) (count other : ℕ) → is_among (take count keys) other ≡ true → is_among keys other ≡ true
among_first keys count other there = ap (λ (ks : List ℕ). is_among ks other) (sym (take-append-drop count keys)) ∙ left_among other (take count keys) (drop count keys) there

-- so it is where one more was added
only_more : (keys : List ℕ) (place : ℕ) → place < length keys → (old some : List ℕ) (other : ℕ) → is_among some other ≡ (is_among old other || is_among (take place keys) other)
    → (is_among some other || (get_or keys place 0 == other)) ≡ true → (is_among old other || is_among keys other) ≡ true
only_more keys place within old some other are there = elim (either_true (is_among some other) (get_or keys place 0 == other) there) [
  | inl before ↦ elim (either_true (is_among old other) (is_among (take place keys) other) (sym are ∙ before)) [
    | inl first ↦ ap (λ b. b || is_among keys other) first
    | inr added ↦ or_right (is_among old other) (is_among keys other) (among_first keys place other added)
  ]
  | inr same ↦
      let last : is_among (take (place + 1) keys) other ≡ true =
      ap (λ (ks : List ℕ). is_among ks other) (take_more keys place 0 within) ∙ right_among other (take place keys) (get_or keys place 0 ∷ []) (ap (λ b. b || false) same) in
      or_right (is_among old other) (is_among keys other) (among_first keys (place + 1) other last)
]

pub returns-in_err-add-clause-only : goal.returns-in_err-add-clause-only
returns-in_err-add-clause-only g c = λ other there.
    only_more c.args.keys.now c.loop-key.key-index c.loop-key-test.true c.args.self.now.keys.keys c.loop-key.self.keys.keys other (c.loop-key.invariant.keys other) (c.add.ensures.only other there)
