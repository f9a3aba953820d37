-- The greatest of what is chosen from a list, as a walk from its front finds it.
use Rattle.std.proofs.Common.{◌≡◌, ℕ, ◌+◌, ◌<◌, Bool, true, false, if◌then◌else◌, List, ◌∷◌, Option, Some, cond, length, get_or, drop, refl, sym, ap, ◌∙◌}
use Rattle.std.proofs.lemmas.List.{at_drop_more}
use Rattle.mini_cascade.specs.Greatest.{greater, greatest}
use Rattle.mini_cascade.proofs.GreatestLaws.{IsOrder, greater_assoc}

module _ {A X : Type 0} (is_less : X → X → Bool) (order : IsOrder is_less) (test : A → Bool) (make : A → X) (chosen : List A → List X)
    (chooses : (first : A) (rest : List A) → chosen (first ∷ rest) ≡ cond (test first) (make first ∷ chosen rest) (chosen rest)) where
  -- what is known when a walk comes to a place
  abbrev pub Reaches : List A → ℕ → Option X → Type 0
  Reaches all place best = greater is_less best (greatest is_less (chosen (drop place all))) ≡ greatest is_less (chosen all)

  first_met : (item : A) (rest : List A) (best : Option X) (answer : Bool) → test item ≡ answer
      → greater is_less best (greatest is_less (chosen (item ∷ rest)))
      ≡ greater is_less (if answer then greater is_less best (Some (make item)) else best) (greatest is_less (chosen rest))
  first_met item rest best true passes = rw (chooses, passes) (sym (greater_assoc is_less order best (Some (make item)) (greatest is_less (chosen rest))))
  first_met item rest best false fails = rw (chooses, fails) refl

  met : (all : List A) (place : ℕ) (item : A) (best : Option X) (answer : Bool) → place < length all → item ≡ get_or all place item → test item ≡ answer
      → Reaches all place best → Reaches all (place + 1) (if answer then greater is_less best (Some (make item)) else best)
  met all place item best answer within here is reaches =
      let opened = at_drop_more (λ rest. greater is_less best (greatest is_less (chosen rest))) all place item within in
      let named : greater is_less best (greatest is_less (chosen (get_or all place item ∷ drop (place + 1) all))) ≡ greater is_less best (greatest is_less (chosen (item ∷ drop (place + 1) all))) =
      ap (λ (first : A). greater is_less best (greatest is_less (chosen (first ∷ drop (place + 1) all)))) (sym here) in
      sym (first_met item (drop (place + 1) all) best answer is) ∙ sym named ∙ sym opened ∙ reaches

  pub picked : (all : List A) (place : ℕ) (item : A) (best next : Option X) → place < length all → item ≡ get_or all place item → test item ≡ true
      → next ≡ greater is_less best (Some (make item)) → Reaches all place best → Reaches all (place + 1) next
  picked all place item best next within here passes is reaches = rw is (met all place item best true within here passes reaches)

  pub passed : (all : List A) (place : ℕ) (item : A) (best : Option X) → place < length all → item ≡ get_or all place item → test item ≡ false
      → Reaches all place best → Reaches all (place + 1) best
  passed all place item best within here fails reaches = met all place item best false within here fails reaches
