-- Where one node is reached, and others only in it, its tree goes and comes at its path. Throughout, n is a node, c what is
-- under it, r what is after it, g trees, and k a key.
use Rattle.std.proofs.Common.{◌≡◌, ◌+◌, ◌≤◌, ℕ, zero, suc, Bool, true, false, cond, List, [], ◌∷◌, Some, refl, ap, ◌∙◌, arith, eq-eqb}
use Rattle.std.proofs.lemmas.Option.{none-some, same_Some}
use Rattle.forest.specs.Forest.{Forest, Empty, Tree}
use Rattle.forest.specs.Keys.{Keyed, times}
use Rattle.forest.specs.Paths.{on_path, trees_from}
use Rattle.forest.specs.Spots.{first_key}
use Rattle.node_arena.specs.Changes.{alone}
use Rattle.merged_walk.specs.Merges.{Merge, Kept, Gone, Come, all_kept}
use Rattle.merged_walk.specs.Edits.{first_changed, merged_at, merged_from}
use Rattle.merged_walk.proofs.MergeLaws.{new-all_kept, old-all_kept}
use Rattle.styled_merge.specs.Reached.{reached}
use Rattle.styled_merge.proofs.ReachedLaws.{at_kept}

-- what a test says, where it is never true
pub never-true : (b : Bool) → (b ≡ true → ⊥) → b ≡ false
never-true true never = absurd (never refl)
never-true false never = refl

pub nothing-there : (L : Type 0) {X : Type 0} (path : List ℕ) (i q : ℕ) → (let none : Forest (Keyed L) = Empty in first_key (on_path path (trees_from i none)) ≡ Some q) → X
nothing-there L [] zero q at = absurd (none-some q at)
nothing-there L (j ∷ path) zero q at = absurd (none-some q at)
nothing-there L [] (suc i) q at = absurd (none-some q at)
nothing-there L (j ∷ path) (suc i) q at = absurd (none-some q at)

module _ {L : Type 0} where
  pub root-counted : (n : Keyed L) (c r : Forest (Keyed L)) → times n.key (Tree n c r) ≡ 1 + (times n.key c + times n.key r)
  root-counted n c r = ap (λ b. cond {A = ℕ} b 1 0 + (times n.key c + times n.key r)) (eq-eqb n.key n.key refl)

  -- what stands in the tree at a path stands in the forest
  pub alone-within : (k : ℕ) (path : List ℕ) (i : ℕ) (g : Forest (Keyed L)) → times k (alone (on_path path (trees_from i g))) ≤ times k g
  alone-within k [] zero Empty = omega arith
  alone-within k [] zero (Tree n c r) = omega arith
  alone-within k (j ∷ path) zero Empty = omega arith
  alone-within k (j ∷ path) zero (Tree n c r) = omega (arith, alone-within k path j c)
  alone-within k [] (suc i) Empty = omega arith
  alone-within k (j ∷ path) (suc i) Empty = omega arith
  alone-within k path (suc i) (Tree n c r) = omega (arith, alone-within k path i r)

-- the tree of a node goes and comes as it is
abbrev pub again : {L : Type 0} → Forest (Keyed L) → Merge L
again g = first_changed (λ n. n) g

module _ {L : Type 0} (is_reached : ℕ → Bool) where
  -- where no node is reached, nothing is
  pub none-reached : (g : Forest (Keyed L)) → ((k : ℕ) → is_reached k ≡ true → times k g ≡ 0) → reached is_reached (all_kept g) ≡ all_kept g
  none-reached Empty none = refl
  none-reached (Tree n c r) none =
      let not = never-true (is_reached n.key) (λ reaches. absurd (omega (arith, none n.key reaches, root-counted n c r))) in
      let below = none-reached c (λ k reaches. omega (arith, none k reaches)) in
      let beside = none-reached r (λ k reaches. omega (arith, none k reaches)) in
      ap (λ b. at_kept is_reached b n (all_kept c) (all_kept r)) not ∙ (λ x. Kept n (below x) (beside x))

  -- all nodes that are reached stand in the tree at a path
  abbrev pub AreThere : List ℕ → ℕ → Forest (Keyed L) → Type 0
  AreThere path i g = (k : ℕ) → is_reached k ≡ true → times k g ≡ times k (alone (on_path path (trees_from i g)))

  pub reached-there : (path : List ℕ) (i : ℕ) (g : Forest (Keyed L)) (top : ℕ) → first_key (on_path path (trees_from i g)) ≡ Some top → is_reached top ≡ true → AreThere path i g
      → reached is_reached (all_kept g) ≡ merged_from (merged_at again path) i g
  reached-there path i Empty top at reaches there = nothing-there L path i top at
  reached-there [] zero (Tree n c r) top at reaches there =
      let here : is_reached n.key ≡ true = ap is_reached (same_Some n.key top at) ∙ reaches in
      let beside = none-reached r (λ k h. omega (arith, there k h)) in
      let was = old-all_kept c in
      let is = new-all_kept c in
      ap (λ b. at_kept is_reached b n (all_kept c) (all_kept r)) here ∙ (λ x. Gone n (was x) (Come n (is x) (beside x)))
  reached-there (j ∷ path) zero (Tree n c r) top at reaches there =
      let not = never-true (is_reached n.key) (λ h. absurd (omega (arith, there n.key h, root-counted n c r, alone-within n.key path j c))) in
      let below = reached-there path j c top at reaches (λ k h. omega (arith, there k h, alone-within k path j c)) in
      let beside = none-reached r (λ k h. omega (arith, there k h, alone-within k path j c)) in
      ap (λ b. at_kept is_reached b n (all_kept c) (all_kept r)) not ∙ (λ x. Kept n (below x) (beside x))
  reached-there path (suc i) (Tree n c r) top at reaches there =
      let not = never-true (is_reached n.key) (λ h. absurd (omega (arith, there n.key h, root-counted n c r, alone-within n.key path i r))) in
      let below = none-reached c (λ k h. omega (arith, there k h, alone-within k path i r)) in
      let beside = reached-there path i r top at reaches (λ k h. omega (arith, there k h, alone-within k path i r)) in
      ap (λ b. at_kept is_reached b n (all_kept c) (all_kept r)) not ∙ (λ x. Kept n (below x) (beside x))
