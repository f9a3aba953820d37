-- Where there is room for a node that moves in the tree without it, there is room in the tree before the move.
-- Throughout, n is a node, c what is under it, r what is after it, and g trees.
use Rattle.std.proofs.Common.{◌≡◌, ◌==◌, ◌+◌, ◌<◌, ◌≤◌, ◌++◌, ◌⊎◌, nat_lt, ℕ, zero, suc, Bool, true, false, cond, List, [], ◌∷◌, length, refl, sym, ap, subst, ◌∙◌, inl, inr, arith, eqb-true}
use Rattle.forest.specs.Forest.{Forest, Empty, Tree}
use Rattle.forest.specs.Paths.{on_path, trees_from}
use Rattle.forest.specs.Spots.{roots}
use Rattle.forest.specs.Keys.{Keyed}
use Rattle.node_arena.specs.AtPaths.{child_count_at, first_children, from_position, leads_into, once_out, removed_at, with_children, without_first}
use Rattle.node_arena.proofs.AtPathLaws.{count-without, on-changed, once-out-parent, removed-child, stays}
use Rattle.merged_walk.specs.EditStops.{HasRoom, NamesNode, old_index}

-- before the move the index is the same, or one of a child of the parent was gone
index-before : (from parent : List ℕ) (index : ℕ) → (old_index from parent index ≡ index) ⊎ ((i : ℕ) × (from ≡ parent ++ i ∷ []))
index-before [] parent index = inl refl
index-before (gone ∷ []) [] index = inr (gone, refl)
index-before (gone ∷ []) (position ∷ path) index = inl refl
index-before (step ∷ (next ∷ above)) [] index = inl refl
index-before (step ∷ (next ∷ above)) (position ∷ path) index = by_step (step == position) refl (index-before (next ∷ above) path index)
  where
    by_step : (b : Bool) → (step == position) ≡ b → (old_index (next ∷ above) path index ≡ index) ⊎ ((i : ℕ) × ((next ∷ above) ≡ path ++ i ∷ []))
        → (cond b (old_index (next ∷ above) path index) index ≡ index) ⊎ ((i : ℕ) × ((step ∷ (next ∷ above)) ≡ (position ∷ path) ++ i ∷ []))
    by_step true is (inl same) = inl same
    by_step true is (inr child) = let same = eqb-true step position is in inr (child.0, (λ x. same x ∷ child.1 x))
    by_step false is h = inl refl

index-at_most : (from parent : List ℕ) (index : ℕ) → old_index from parent index ≤ suc index
index-at_most [] parent index = omega arith
index-at_most (gone ∷ []) [] index = elim (nat_lt gone index) as (λ b. cond b (suc index) index ≤ suc index) [ true ↦ omega arith | false ↦ omega arith ]
index-at_most (gone ∷ []) (position ∷ path) index = omega arith
index-at_most (step ∷ (next ∷ above)) [] index = omega arith
index-at_most (step ∷ (next ∷ above)) (position ∷ path) index =
    elim (step == position) as (λ b. cond b (old_index (next ∷ above) path index) index ≤ suc index) [ true ↦ index-at_most (next ∷ above) path index | false ↦ omega arith ]

module _ {L : Type 0} where
  below-count : (position : ℕ) (c : Forest (Keyed L)) → NamesNode [] (trees_from position c) → position < length (roots c)
  below-count zero Empty there = absurd there
  below-count zero (Tree n c r) there = omega arith
  below-count (suc position) Empty there = absurd there
  below-count (suc position) (Tree n c r) there = omega (arith, below-count position r there)

  named-child : (parent : List ℕ) (i : ℕ) (g : Forest (Keyed L)) → NamesNode (parent ++ i ∷ []) g → i < length (roots (first_children (on_path parent g)))
  named-child [] i Empty there = absurd there
  named-child [] i (Tree n c r) there = below-count i c there
  named-child (position ∷ path) i Empty there = absurd there
  named-child (position ∷ path) i (Tree n c r) there = named-child path i (trees_from position c) there

  one-fewer : (i : ℕ) (t : Forest (Keyed L)) → i < length (roots (first_children t))
      → length (roots (first_children (with_children (from_position without_first i) t))) + 1 ≡ length (roots (first_children t))
  one-fewer i Empty low = absurd (omega (arith, low))
  one-fewer i (Tree n c r) low = count-without i c low

  -- without one of its children a node has one child fewer
  child-fewer : (parent : List ℕ) (i : ℕ) (g : Forest (Keyed L)) → NamesNode (parent ++ i ∷ []) g
      → child_count_at (once_out (parent ++ i ∷ []) parent) (removed_at (parent ++ i ∷ []) g) + 1 ≡ child_count_at parent g
  child-fewer parent i g there =
      let change : Forest (Keyed L) → Forest (Keyed L) = with_children (from_position without_first i) in
      ap (λ path. child_count_at path (removed_at (parent ++ i ∷ []) g) + 1) (once-out-parent parent i)
      ∙ ap (λ t. child_count_at parent t + 1) (removed-child parent i g)
      ∙ ap (λ t. length (roots (first_children t)) + 1) (on-changed change parent g refl)
      ∙ one-fewer i (on_path parent g) (named-child parent i g there)

  -- there is room before the move
  pub room-before : (step : ℕ) (above parent : List ℕ) (index : ℕ) (g : Forest (Keyed L)) → leads_into (step ∷ above) parent ≡ false → NamesNode (step ∷ above) g → NamesNode parent g
      → HasRoom (once_out (step ∷ above) parent) index (removed_at (step ∷ above) g) → HasRoom parent (old_index (step ∷ above) parent index) g
  room-before step above parent index g apart there named room =
      let from : List ℕ = step ∷ above in
      let child : (i : ℕ) × (from ≡ parent ++ i ∷ []) → old_index from parent index ≤ child_count_at parent g =
      λ its. (
      let fewer : child_count_at (once_out from parent) (removed_at from g) + 1 ≡ child_count_at parent g =
      subst (λ path. child_count_at (once_out path parent) (removed_at path g) + 1 ≡ child_count_at parent g) (sym its.1) (child-fewer parent its.0 g (subst (λ path. NamesNode path g) its.1 there)) in
      omega (arith, fewer, room.1, index-at_most from parent index)
      ) in (
        named,
        elim (index-before from parent index) [
          | inl same ↦ elim (stays from parent g (omega arith) apart).1 [
            | inl count ↦ omega (arith, same, count, room.1)
            | inr its ↦ child its
          ]
          | inr its ↦ child its
        ],
      )
