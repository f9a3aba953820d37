-- The old forest of an edit's merge is the tree before the edit, and the new one that after it. Throughout, n is a
-- node, c what is under it, r what is after it, g trees, and m a merge; z is a node that comes with zs under it.
use Rattle.std.proofs.Common.{◌≡◌, ℕ, zero, suc, List, [], ◌∷◌, refl, sym, ap, ◌∙◌}
use Rattle.forest.specs.Forest.{Forest, Empty, Tree}
use Rattle.forest.specs.Keys.{Keyed}
use Rattle.forest.specs.Changes.{splice}
use Rattle.forest.specs.Paths.{on_path}
use Rattle.node_arena.specs.AtPaths.{at_path, from_position, inserted_at, moved, once_out, relabelled_at, removed_at, with_children, with_label, with_tree, without_first}
use Rattle.merged_walk.specs.Merges.{Merge, End, Kept, Turned, Gone, Come, all_kept, old_of, new_of}
use Rattle.merged_walk.specs.Edits.{merged_from, merged_at, first_gone, first_changed, come_among, from_new, put_at, put_fragment, removal, relabelling, insertion, moving}
use Rattle.merged_walk.proofs.MergeLaws.{new-all_kept, old-all_kept}

module _ {L : Type 0} where
  -- Merges at a path.

  module _ (change : Forest (Keyed L) → Merge L) (same : (g : Forest (Keyed L)) → old_of (change g) ≡ g) where
    old-merged_from : (position : ℕ) (g : Forest (Keyed L)) → old_of (merged_from change position g) ≡ g
    old-merged_from zero g = same g
    old-merged_from (suc position) Empty = refl
    old-merged_from (suc position) (Tree n c r) = let below = old-all_kept c in let beside = old-merged_from position r in λ x. Tree n (below x) (beside x)

  old-merged_at : (change : Forest (Keyed L) → Merge L) → ((g : Forest (Keyed L)) → old_of (change g) ≡ g) → (path : List ℕ) (g : Forest (Keyed L)) → old_of (merged_at change path g) ≡ g
  old-merged_at change same [] g = same g
  old-merged_at change same (position ∷ path) Empty = refl
  old-merged_at change same (position ∷ path) (Tree n c r) =
      let below = old-merged_from (merged_at change path) (old-merged_at change same path) position c in let beside = old-all_kept r in λ x. Tree n (below x) (beside x)

  module _ (change : Forest (Keyed L) → Merge L) (edit : Forest (Keyed L) → Forest (Keyed L)) (same : (g : Forest (Keyed L)) → new_of (change g) ≡ edit g) where
    new-merged_from : (position : ℕ) (g : Forest (Keyed L)) → new_of (merged_from change position g) ≡ from_position edit position g
    new-merged_from zero g = same g
    new-merged_from (suc position) Empty = refl
    new-merged_from (suc position) (Tree n c r) = let below = new-all_kept c in let beside = new-merged_from position r in λ x. Tree n (below x) (beside x)

  new-merged_at : (change : Forest (Keyed L) → Merge L) (edit : Forest (Keyed L) → Forest (Keyed L)) → ((g : Forest (Keyed L)) → new_of (change g) ≡ edit g)
      → (path : List ℕ) (g : Forest (Keyed L)) → new_of (merged_at change path g) ≡ at_path edit path g
  new-merged_at change edit same [] g = same g
  new-merged_at change edit same (position ∷ path) Empty = refl
  new-merged_at change edit same (position ∷ path) (Tree n c r) =
      let below = new-merged_from (merged_at change path) (at_path edit path) (new-merged_at change edit same path) position c in
      let beside = new-all_kept r in λ x. Tree n (below x) (beside x)

  old-first_gone : (g : Forest (Keyed L)) → old_of (first_gone g) ≡ g
  old-first_gone Empty = refl
  old-first_gone (Tree n c r) = ap (Tree n c) (old-all_kept r)

  new-first_gone : (g : Forest (Keyed L)) → new_of (first_gone g) ≡ without_first g
  new-first_gone Empty = refl
  new-first_gone (Tree n c r) = new-all_kept r

  old-first_changed : (change : Keyed L → Keyed L) (g : Forest (Keyed L)) → old_of (first_changed change g) ≡ g
  old-first_changed change Empty = refl
  old-first_changed change (Tree n c r) = ap (Tree n c) (old-all_kept r)

  new-first_changed : (change : Keyed L → Keyed L) (g : Forest (Keyed L)) → new_of (first_changed change g) ≡ with_label change g
  new-first_changed change Empty = refl
  new-first_changed change (Tree n c r) = ap (Tree (change n) c) (new-all_kept r)

  pub old-removal : (path : List ℕ) (g : Forest (Keyed L)) → old_of (removal path g) ≡ g
  old-removal path g = old-merged_at first_gone old-first_gone path g

  pub new-removal : (path : List ℕ) (g : Forest (Keyed L)) → new_of (removal path g) ≡ removed_at path g
  new-removal path g = new-merged_at first_gone without_first new-first_gone path g

  pub old-relabelling : (path : List ℕ) (change : Keyed L → Keyed L) (g : Forest (Keyed L)) → old_of (relabelling path change g) ≡ g
  old-relabelling path change g = old-merged_at (first_changed change) (old-first_changed change) path g

  pub new-relabelling : (path : List ℕ) (change : Keyed L → Keyed L) (g : Forest (Keyed L)) → new_of (relabelling path change g) ≡ relabelled_at path change g
  new-relabelling path change g = new-merged_at (first_changed change) (with_label change) (new-first_changed change) path g

  -- A tree that comes.

  module _ (z : Keyed L) (zs : Forest (Keyed L)) where
    old-come_among : (index : ℕ) (m : Merge L) → old_of (come_among index z zs m) ≡ old_of m
    old-come_among zero m = refl
    old-come_among (suc index) End = refl
    old-come_among (suc index) (Kept n c r) = ap (Tree n (old_of c)) (old-come_among index r)
    old-come_among (suc index) (Turned was n c r) = ap (Tree was (old_of c)) (old-come_among index r)
    old-come_among (suc index) (Gone n c r) = ap (Tree n c) (old-come_among (suc index) r)
    old-come_among (suc index) (Come n c r) = old-come_among index r

    new-come_among : (index : ℕ) (m : Merge L) → new_of (come_among index z zs m) ≡ splice index z zs (new_of m)
    new-come_among zero m = refl
    new-come_among (suc index) End = refl
    new-come_among (suc index) (Kept n c r) = ap (Tree n (new_of c)) (new-come_among index r)
    new-come_among (suc index) (Turned was n c r) = ap (Tree n (new_of c)) (new-come_among index r)
    new-come_among (suc index) (Gone n c r) = new-come_among (suc index) r
    new-come_among (suc index) (Come n c r) = ap (Tree n c) (new-come_among index r)

    old-from_new : (change : Merge L → Merge L) → ((m : Merge L) → old_of (change m) ≡ old_of m) → (position : ℕ) (m : Merge L) → old_of (from_new change position m) ≡ old_of m
    old-from_new change same zero End = same End
    old-from_new change same zero (Kept n c r) = same (Kept n c r)
    old-from_new change same zero (Turned was n c r) = same (Turned was n c r)
    old-from_new change same zero (Gone n c r) = ap (Tree n c) (old-from_new change same zero r)
    old-from_new change same zero (Come n c r) = same (Come n c r)
    old-from_new change same (suc position) End = refl
    old-from_new change same (suc position) (Kept n c r) = ap (Tree n (old_of c)) (old-from_new change same position r)
    old-from_new change same (suc position) (Turned was n c r) = ap (Tree was (old_of c)) (old-from_new change same position r)
    old-from_new change same (suc position) (Gone n c r) = ap (Tree n c) (old-from_new change same (suc position) r)
    old-from_new change same (suc position) (Come n c r) = old-from_new change same position r

    new-from_new : (change : Merge L → Merge L) (edit : Forest (Keyed L) → Forest (Keyed L)) → ((m : Merge L) → new_of (change m) ≡ edit (new_of m))
        → (position : ℕ) (m : Merge L) → new_of (from_new change position m) ≡ from_position edit position (new_of m)
    new-from_new change edit same zero End = same End
    new-from_new change edit same zero (Kept n c r) = same (Kept n c r)
    new-from_new change edit same zero (Turned was n c r) = same (Turned was n c r)
    new-from_new change edit same zero (Gone n c r) = new-from_new change edit same zero r
    new-from_new change edit same zero (Come n c r) = same (Come n c r)
    new-from_new change edit same (suc position) End = refl
    new-from_new change edit same (suc position) (Kept n c r) = ap (Tree n (new_of c)) (new-from_new change edit same position r)
    new-from_new change edit same (suc position) (Turned was n c r) = ap (Tree n (new_of c)) (new-from_new change edit same position r)
    new-from_new change edit same (suc position) (Gone n c r) = new-from_new change edit same (suc position) r
    new-from_new change edit same (suc position) (Come n c r) = ap (Tree n c) (new-from_new change edit same position r)

    old-put_at : (path : List ℕ) (index : ℕ) (m : Merge L) → old_of (put_at path index z zs m) ≡ old_of m
    old-put_at [] index End = refl
    old-put_at [] index (Kept n c r) = ap (λ c. Tree n c (old_of r)) (old-come_among index c)
    old-put_at [] index (Turned was n c r) = ap (λ c. Tree was c (old_of r)) (old-come_among index c)
    old-put_at [] index (Gone n c r) = ap (Tree n c) (old-put_at [] index r)
    old-put_at [] index (Come n c r) = refl
    old-put_at (position ∷ path) index End = refl
    old-put_at (position ∷ path) index (Kept n c r) = ap (λ c. Tree n c (old_of r)) (old-from_new (put_at path index z zs) (old-put_at path index) position c)
    old-put_at (position ∷ path) index (Turned was n c r) = ap (λ c. Tree was c (old_of r)) (old-from_new (put_at path index z zs) (old-put_at path index) position c)
    old-put_at (position ∷ path) index (Gone n c r) = ap (Tree n c) (old-put_at (position ∷ path) index r)
    old-put_at (position ∷ path) index (Come n c r) = refl

    new-put_at : (path : List ℕ) (index : ℕ) (m : Merge L) → new_of (put_at path index z zs m) ≡ inserted_at path index (Tree z zs Empty) (new_of m)
    new-put_at [] index End = refl
    new-put_at [] index (Kept n c r) = ap (λ c. Tree n c (new_of r)) (new-come_among index c)
    new-put_at [] index (Turned was n c r) = ap (λ c. Tree n c (new_of r)) (new-come_among index c)
    new-put_at [] index (Gone n c r) = new-put_at [] index r
    new-put_at [] index (Come n c r) = refl
    new-put_at (position ∷ path) index End = refl
    new-put_at (position ∷ path) index (Kept n c r) =
        ap (λ c. Tree n c (new_of r)) (new-from_new (put_at path index z zs) (inserted_at path index (Tree z zs Empty)) (new-put_at path index) position c)
    new-put_at (position ∷ path) index (Turned was n c r) =
        ap (λ c. Tree n c (new_of r)) (new-from_new (put_at path index z zs) (inserted_at path index (Tree z zs Empty)) (new-put_at path index) position c)
    new-put_at (position ∷ path) index (Gone n c r) = new-put_at (position ∷ path) index r
    new-put_at (position ∷ path) index (Come n c r) = refl

  pub old-put_fragment : (path : List ℕ) (index : ℕ) (fragment : Forest (Keyed L)) (m : Merge L) → old_of (put_fragment path index fragment m) ≡ old_of m
  old-put_fragment path index Empty m = refl
  old-put_fragment path index (Tree z zs after) m = old-put_at z zs path index m

  -- without a fragment nothing is put in
  put-nothing : (index : ℕ) (g : Forest (Keyed L)) → with_children (with_tree index Empty) g ≡ g
  put-nothing index Empty = refl
  put-nothing index (Tree n c r) = refl

  from-nothing : (edit : Forest (Keyed L) → Forest (Keyed L)) → ((g : Forest (Keyed L)) → edit g ≡ g) → (position : ℕ) (g : Forest (Keyed L)) → from_position edit position g ≡ g
  from-nothing edit same zero g = same g
  from-nothing edit same (suc position) Empty = refl
  from-nothing edit same (suc position) (Tree n c r) = ap (Tree n c) (from-nothing edit same position r)

  at-nothing : (edit : Forest (Keyed L) → Forest (Keyed L)) → ((g : Forest (Keyed L)) → edit g ≡ g) → (path : List ℕ) (g : Forest (Keyed L)) → at_path edit path g ≡ g
  at-nothing edit same [] g = same g
  at-nothing edit same (position ∷ path) Empty = refl
  at-nothing edit same (position ∷ path) (Tree n c r) = ap (λ c. Tree n c r) (from-nothing (at_path edit path) (at-nothing edit same path) position c)

  pub new-put_fragment : (path : List ℕ) (index : ℕ) (fragment : Forest (Keyed L)) (m : Merge L) → new_of (put_fragment path index fragment m) ≡ inserted_at path index fragment (new_of m)
  new-put_fragment path index Empty m = sym (at-nothing (with_children (with_tree index Empty)) (put-nothing index) path (new_of m))
  new-put_fragment path index (Tree z zs after) m = new-put_at z zs path index m

  pub old-insertion : (parent : List ℕ) (index : ℕ) (fragment g : Forest (Keyed L)) → old_of (insertion parent index fragment g) ≡ g
  old-insertion parent index fragment g = old-put_fragment parent index fragment (all_kept g) ∙ old-all_kept g

  pub new-insertion : (parent : List ℕ) (index : ℕ) (fragment g : Forest (Keyed L)) → new_of (insertion parent index fragment g) ≡ inserted_at parent index fragment g
  new-insertion parent index fragment g = new-put_fragment parent index fragment (all_kept g) ∙ ap (inserted_at parent index fragment) (new-all_kept g)

  pub old-moving : (from parent : List ℕ) (index : ℕ) (g : Forest (Keyed L)) → old_of (moving from parent index g) ≡ g
  old-moving from parent index g = old-put_fragment (once_out from parent) index (on_path from g) (removal from g) ∙ old-removal from g

  pub new-moving : (from parent : List ℕ) (index : ℕ) (g : Forest (Keyed L)) → new_of (moving from parent index g) ≡ moved from parent index g
  new-moving from parent index g =
      new-put_fragment (once_out from parent) index (on_path from g) (removal from g) ∙ ap (inserted_at (once_out from parent) index (on_path from g)) (new-removal from g)
