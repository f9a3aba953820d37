-- Loops over pieces: what they have done with one more.
use Rattle.std.proofs.Common.{◌≡◌, ◌<◌, ◌≤◌, ◌+◌, ◌∷◌, ◌++◌, ℕ, List, [], ap, append-nil, append_assoc, arith, drop, get_or, length, sym, take, ◌∙◌}
use Rattle.std.proofs.lemmas.Grind.{flat_map-append}
use Rattle.std.proofs.lemmas.List.{take-append-drop, take_more}
use Rattle.std.proofs.lemmas.List.Sums.{sum_by-append}
use Rattle.std.specs.List.{flat_map, sum_by}

module _ {X : Type 0} (xs : List X) (place : ℕ) (one : X) (within : place < length xs) (is : one ≡ get_or xs place one) where
  one_more : take (place + 1) xs ≡ take place xs ++ one ∷ []
  one_more = take_more xs place one within ∙ ap (λ (x : X). take place xs ++ x ∷ []) (sym is)

  -- sums
  pub sum_more : (weight : X → ℕ) → sum_by weight (take (place + 1) xs) ≡ sum_by weight (take place xs) + weight one
  sum_more weight =
      let parts : sum_by weight (take (place + 1) xs) ≡ sum_by weight (take place xs) + (0 + weight one) = ap (sum_by weight) one_more ∙ sum_by-append weight (take place xs) (one ∷ []) in
      omega (arith, parts)

  pub sum_within : (weight : X → ℕ) → sum_by weight (take place xs) + weight one ≤ sum_by weight xs
  sum_within weight =
      let parts : sum_by weight (take (place + 1) xs) + sum_by weight (drop (place + 1) xs) ≡ sum_by weight xs =
      sym (sum_by-append weight (take (place + 1) xs) (drop (place + 1) xs)) ∙ ap (sum_by weight) (take-append-drop (place + 1) xs) in
      let more = sum_more weight in
      omega (arith, parts, more)

  -- texts
  pub text_more : (text : X → List ℕ) (before so_far now : List ℕ) → so_far ≡ before ++ flat_map text (take place xs) → now ≡ so_far ++ text one → now ≡ before ++ flat_map text (take (place + 1) xs)
  text_more text before so_far now written grew =
      grew
      ∙ ap (λ (front : List ℕ). front ++ text one) written
      ∙ append_assoc before (flat_map text (take place xs)) (text one)
      ∙ ap (λ (rest : List ℕ). before ++ rest)
      (ap (λ (last : List ℕ). flat_map text (take place xs) ++ last) (sym (append-nil (text one)))
      ∙ sym (flat_map-append text (take place xs) (one ∷ []))
      ∙ ap (flat_map text) (sym one_more))
