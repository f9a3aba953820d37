-- The work of an edit pays for the walk over its merge. Throughout, e is an evaluator, i what a level is handed, j
-- what it was handed, n a node, c what is under it, r what is after it, g trees, and m a merge; z is a node that
-- comes with zs under it.
use Rattle.std.proofs.Common.{◌≡◌, ◌+◌, ◌*◌, ◌≤◌, ℕ, zero, suc, Bool, true, false, cond, List, [], ◌∷◌, ◌++◌, length, Some, refl, sym, ap, subst, ◌∙◌, arith}
use Rattle.std.specs.Prelude.{sum_by}
use Rattle.std.proofs.lemmas.List.{length_push}
use Rattle.std.proofs.lemmas.List.Elements.{All-head}
use Rattle.std.proofs.lemmas.List.Sums.{sum_by-cons}
use Rattle.forest.specs.Forest.{Forest, Empty, Tree}
use Rattle.forest.specs.Keys.{Keyed}
use Rattle.forest.specs.Paths.{on_path, trees_from}
use Rattle.forest.specs.Spots.{roots}
use Rattle.forest.specs.Changes.{splice}
use Rattle.forest.proofs.PathLaws.{on_path-append}
use Rattle.node_arena.specs.AtPaths.{first_children, inserted_at, moved, once_out, relabelled_at, removed_at, with_children, with_label, with_tree}
use Rattle.node_arena.specs.Changes.{alone}
use Rattle.node_arena.proofs.AtPathLaws.{on-changed}
use Rattle.merged_walk.specs.Merges.{Merge, End, Kept, Turned, Gone, Come, all_come, all_kept, old_of, new_of, has_place}
use Rattle.merged_walk.specs.Evaluators.{Evaluator, past_all, input, inputs, count_of_elements, weigh_elements}
use Rattle.merged_walk.specs.Entries.{Holds, first_at}
use Rattle.merged_walk.specs.Counts.{budget, come_count, gone_count, led_count, other_count, place_count, weigh_places}
use Rattle.merged_walk.specs.Edits.{merged_from, merged_at, first_gone, first_changed, put_at, put_fragment, removal, relabelling, insertion, moving}
use Rattle.merged_walk.specs.EditStops.{HasRoom, NamesNode, on_way}
use Rattle.merged_walk.specs.Work.{IsPaid, Touched, insertion_touches, moving_touches, relabelling_touches, removal_touches, weigh_differing}
use Rattle.merged_walk.proofs.EntryLaws.{all-left, all-right}
use Rattle.merged_walk.proofs.MergeLaws.{has_place-all_kept, new-all_kept}
use Rattle.merged_walk.proofs.CountLaws.{anew-within, weigh-all_kept}
use Rattle.merged_walk.proofs.EditLaws.{new-insertion, new-moving, new-relabelling, new-removal, old-insertion, old-moving, old-relabelling, old-removal}
use Rattle.merged_walk.proofs.PutLaws.{OnlyGoes, led-puts, one_at_most, only-all_kept, only-removal, puts-put_at, weigh-puts}

-- Counts of merges at a path.

module _ {L : Type 0} where
  weigh-merged_from : (gone come : Forest (Keyed L) → ℕ) (change : Forest (Keyed L) → Merge L) (position : ℕ) (g : Forest (Keyed L))
      → weigh_places gone come (merged_from change position g) ≤ weigh_places gone come (change (trees_from position g))
  weigh-merged_from gone come change zero g = omega arith
  weigh-merged_from gone come change (suc position) Empty = omega arith
  weigh-merged_from gone come change (suc position) (Tree n c r) = omega (arith, weigh-merged_from gone come change position r, weigh-all_kept gone come c)

  weigh-merged_at : (gone come : Forest (Keyed L) → ℕ) (change : Forest (Keyed L) → Merge L) (path : List ℕ) (g : Forest (Keyed L))
      → weigh_places gone come (merged_at change path g) ≤ weigh_places gone come (change (on_path path g))
  weigh-merged_at gone come change [] g = omega arith
  weigh-merged_at gone come change (position ∷ path) Empty = omega arith
  weigh-merged_at gone come change (position ∷ path) (Tree n c r) =
      omega (arith, weigh-merged_from gone come (merged_at change path) position c, weigh-merged_at gone come change path (trees_from position c), weigh-all_kept gone come r)

  pub led-all_kept : (g : Forest (Keyed L)) → led_count (all_kept g) ≡ 0
  led-all_kept Empty = refl
  led-all_kept (Tree n c r) = rw (has_place-all_kept c) (omega (arith, led-all_kept c, led-all_kept r))

  led-merged_from : (change : Forest (Keyed L) → Merge L) (position : ℕ) (g : Forest (Keyed L)) → led_count (merged_from change position g) ≤ led_count (change (trees_from position g))
  led-merged_from change zero g = omega arith
  led-merged_from change (suc position) Empty = omega arith
  led-merged_from change (suc position) (Tree n c r) = rw (has_place-all_kept c) (omega (arith, led-merged_from change position r, led-all_kept c))

  led-merged_at : (change : Forest (Keyed L) → Merge L) (path : List ℕ) (g : Forest (Keyed L)) → led_count (merged_at change path g) ≤ length (on_way path g) + led_count (change (on_path path g))
  led-merged_at change [] g = omega arith
  led-merged_at change (position ∷ path) Empty = omega arith
  led-merged_at change (position ∷ path) (Tree n c r) =
      omega (
        arith,
        led-merged_from (merged_at change path) position c,
        led-merged_at change path (trees_from position c),
        led-all_kept r,
        one_at_most (has_place (merged_from (merged_at change path) position c)),
      )

  weigh-first_gone : (gone come : Forest (Keyed L) → ℕ) (g : Forest (Keyed L)) → weigh_places gone come (first_gone g) ≤ gone (alone g)
  weigh-first_gone gone come Empty = omega arith
  weigh-first_gone gone come (Tree n c r) = omega (arith, weigh-all_kept gone come r)

  weigh-first_changed : (gone come : Forest (Keyed L) → ℕ) (change : Keyed L → Keyed L) (g : Forest (Keyed L))
      → weigh_places gone come (first_changed change g) ≤ gone (alone g) + come (alone (with_label change g))
  weigh-first_changed gone come change Empty = omega arith
  weigh-first_changed gone come change (Tree n c r) = omega (arith, weigh-all_kept gone come r)

  led-first_gone : (g : Forest (Keyed L)) → led_count (first_gone g) ≡ 0
  led-first_gone Empty = refl
  led-first_gone (Tree n c r) = led-all_kept r

  led-first_changed : (change : Keyed L → Keyed L) (g : Forest (Keyed L)) → led_count (first_changed change g) ≡ 0
  led-first_changed change Empty = refl
  led-first_changed change (Tree n c r) = led-all_kept r

  weigh-removal : (gone come : Forest (Keyed L) → ℕ) (path : List ℕ) (g : Forest (Keyed L)) → weigh_places gone come (removal path g) ≤ gone (alone (on_path path g))
  weigh-removal gone come path g = omega (arith, weigh-merged_at gone come first_gone path g, weigh-first_gone gone come (on_path path g))

  led-removal : (path : List ℕ) (g : Forest (Keyed L)) → led_count (removal path g) ≤ length (on_way path g)
  led-removal path g = omega (arith, led-merged_at first_gone path g, led-first_gone (on_path path g))

  -- Where a fragment comes to stand.

  names-tree : (path : List ℕ) (g : Forest (Keyed L)) → NamesNode path g → (n : Keyed L) × (c : Forest (Keyed L)) × (r : Forest (Keyed L)) × (on_path path g ≡ Tree n c r)
  names-tree [] Empty there = absurd there
  names-tree [] (Tree n c r) there = (n, c, r, refl)
  names-tree (position ∷ path) Empty there = absurd there
  names-tree (position ∷ path) (Tree n c r) there = names-tree path (trees_from position c) there

  pub tree-named : (path : List ℕ) (g : Forest (Keyed L)) (n : Keyed L) (c r : Forest (Keyed L)) → on_path path g ≡ Tree n c r → NamesNode path g
  tree-named [] Empty n c r is = absurd (cc)
  tree-named [] (Tree m d s) n c r is = tt
  tree-named (position ∷ path) Empty n c r is = absurd (cc)
  tree-named (position ∷ path) (Tree m d s) n c r is = tree-named path (trees_from position d) n c r is

  way-length : (path : List ℕ) (g : Forest (Keyed L)) → NamesNode path g → length (on_way path g) ≡ length path
  way-length [] g there = refl
  way-length (position ∷ path) Empty there = absurd there
  way-length (position ∷ path) (Tree n c r) there = ap suc (way-length path (trees_from position c) there)

  module _ (z : Keyed L) (zs : Forest (Keyed L)) where
    splice-there : (index : ℕ) (c : Forest (Keyed L)) → index ≤ length (roots c) → trees_from index (splice index z zs c) ≡ Tree z zs (trees_from index c)
    splice-there zero c few = refl
    splice-there (suc index) Empty few = absurd (omega (arith, few))
    splice-there (suc index) (Tree n c r) few = splice-there index r (omega (arith, few))

    inserted-there : (path : List ℕ) (index : ℕ) (after g : Forest (Keyed L)) → HasRoom path index g
        → (r : Forest (Keyed L)) × (on_path (path ++ index ∷ []) (inserted_at path index (Tree z zs after) g) ≡ Tree z zs r)
    inserted-there path index after g room =
        let its = names-tree path g room.0 in
        let few = subst (λ t. index ≤ length (roots (first_children t))) its.3 room.1 in (
          trees_from index its.1,
          on_path-append path (index ∷ []) (inserted_at path index (Tree z zs after) g)
              ∙ ap (on_path (index ∷ [])) (on-changed (with_children (with_tree index (Tree z zs after))) path g refl ∙ ap (with_children (with_tree index (Tree z zs after))) its.3)
              ∙ splice-there index its.1 few,
        )

-- What is touched, weighed.

module _ {L : Type 0} (is_element : L → Bool) (weight : ℕ → ℕ) where
  -- the trees and the ways
  abbrev pub weigh_touched : Touched L → ℕ
  weigh_touched touched = sum_by (weigh_elements is_element weight) touched.trees + sum_by (λ way. sum_by (λ (n : Keyed L). weight n.key) way) touched.ways

  -- a merge has two places at most, and what it leads to, what comes and what goes is touched
  pub record AreTouched (m : Merge L) (touched : Touched L) : Type 0 where
    pub places : place_count m ≤ 2
    pub few : (led_count m + come_count is_element m + gone_count is_element m) ≤ weigh_touched touched

module _ {L : Type 0} (is_element : L → Bool) (weight : ℕ → ℕ) (heavy : (k : ℕ) → 1 ≤ weight k) where
  -- Counts are at most weights.

  pub elements-within : (g : Forest (Keyed L)) → count_of_elements is_element g ≤ weigh_elements is_element weight g
  elements-within Empty = omega arith
  elements-within (Tree n c r) =
      elim (is_element n.label) as (λ b. cond {A = ℕ} b 1 0 + (count_of_elements is_element c + count_of_elements is_element r) ≤ cond b (weight n.key) 0 + (weigh_elements is_element weight c + weigh_elements is_element weight r)) [
        | true ↦ omega (arith, heavy n.key, elements-within c, elements-within r)
        | false ↦ omega (arith, elements-within c, elements-within r)
      ]

  pub way-within : (way : List (Keyed L)) → length way ≤ sum_by (λ (n : Keyed L). weight n.key) way
  way-within [] = omega arith
  way-within (n ∷ way) = omega (arith, heavy n.key, way-within way, sum_by-cons (λ (n : Keyed L). weight n.key) n way)

  -- The edits.

  pub touched-removal : (path : List ℕ) (tree : Forest (Keyed L)) → AreTouched is_element weight (removal path tree) (removal_touches path tree)
  touched-removal path tree = record {
    places = omega (arith, weigh-removal (λ _. 1) (λ _. 1) path tree);
    few =
        omega (
          arith,
          led-removal path tree,
          weigh-removal (λ _. 0) (count_of_elements is_element) path tree,
          weigh-removal (count_of_elements is_element) (λ _. 0) path tree,
          elements-within (alone (on_path path tree)),
          way-within (on_way path tree),
        );
  }

  pub touched-relabelling : (path : List ℕ) (change : Keyed L → Keyed L) (tree : Forest (Keyed L))
      → AreTouched is_element weight (relabelling path change tree) (relabelling_touches path change tree)
  touched-relabelling path change tree =
      let at = on_path path tree in
      let there : on_path path (relabelled_at path change tree) ≡ with_label change at = on-changed (with_label change) path tree refl in
      let its : count_of_elements is_element (alone (with_label change at)) ≤ weigh_elements is_element weight (alone (on_path path (relabelled_at path change tree))) =
      subst (λ g. count_of_elements is_element (alone (with_label change at)) ≤ weigh_elements is_element weight (alone g)) (sym there) (elements-within (alone (with_label change at))) in
      record {
        places = omega (arith, weigh-merged_at (λ _. 1) (λ _. 1) (first_changed change) path tree, weigh-first_changed (λ _. 1) (λ _. 1) change at);
        few =
            omega (
              arith,
              led-merged_at (first_changed change) path tree,
              led-first_changed change at,
              weigh-merged_at (λ _. 0) (count_of_elements is_element) (first_changed change) path tree,
              weigh-first_changed (λ _. 0) (count_of_elements is_element) change at,
              weigh-merged_at (count_of_elements is_element) (λ _. 0) (first_changed change) path tree,
              weigh-first_changed (count_of_elements is_element) (λ _. 0) change at,
              its,
              elements-within (alone at),
              way-within (on_way path tree),
            );
      }

  -- a fragment that comes into a merge in which trees only go, and only one
  put-within : (first : Merge L) (z : Keyed L) (zs after : Forest (Keyed L)) (parent : List ℕ) (index : ℕ) (new : Forest (Keyed L)) → OnlyGoes first → HasRoom parent index (new_of first)
      → inserted_at parent index (Tree z zs after) (new_of first) ≡ new
      → let place : List ℕ = parent ++ index ∷ [] in let m : Merge L = put_at parent index z zs first in
      (place_count m ≡ place_count first + 1)
      × ((led_count m + come_count is_element m + gone_count is_element m)
      ≤ led_count first + come_count is_element first + gone_count is_element first + weigh_elements is_element weight (alone (on_path place new)) + sum_by (λ (n : Keyed L). weight n.key) (on_way place new))
  put-within first z zs after parent index new only room is =
      let place : List ℕ = parent ++ index ∷ [] in
      let m : Merge L = put_at parent index z zs first in
      let puts = puts-put_at z zs parent index first only room in
      let there = inserted-there z zs parent index after (new_of first) room in
      let at : on_path place new ≡ Tree z zs there.0 = ap (on_path place) (sym is) ∙ there.1 in
      let its : count_of_elements is_element (Tree z zs Empty) ≤ weigh_elements is_element weight (alone (on_path place new)) =
      subst (λ g. count_of_elements is_element (Tree z zs Empty) ≤ weigh_elements is_element weight (alone g)) (sym at) (elements-within (Tree z zs Empty)) in (
        weigh-puts z zs (λ _. 1) (λ _. 1) (suc (length parent)) first m puts,
        omega (
          arith,
          led-puts z zs (suc (length parent)) first m puts,
          weigh-puts z zs (λ _. 0) (count_of_elements is_element) (suc (length parent)) first m puts,
          weigh-puts z zs (count_of_elements is_element) (λ _. 0) (suc (length parent)) first m puts,
          its,
          way-length place new (tree-named place new z zs there.0 at),
          length_push parent index,
          way-within (on_way place new),
        ),
      )

  pub touched-insertion : (parent : List ℕ) (index : ℕ) (fragment tree : Forest (Keyed L)) → HasRoom parent index tree
      → AreTouched is_element weight (insertion parent index fragment tree) (insertion_touches parent index fragment tree)
  touched-insertion parent index Empty tree room = record {
    places = omega (arith, weigh-all_kept (λ _. 1) (λ _. 1) tree);
    few = omega (arith, led-all_kept tree, weigh-all_kept (λ _. 0) (count_of_elements is_element) tree, weigh-all_kept (count_of_elements is_element) (λ _. 0) tree);
  }
  touched-insertion parent index (Tree z zs after) tree room =
      let fragment = Tree z zs after in
      let new = inserted_at parent index fragment tree in
      let put =
      put-within (all_kept tree) z zs after parent index new (only-all_kept tree) (subst (HasRoom parent index) (sym (new-all_kept tree)) room) (ap (inserted_at parent index fragment) (new-all_kept tree)) in
      record {
        places = omega (arith, put.0, weigh-all_kept (λ _. 1) (λ _. 1) tree);
        few =
            omega (
              arith,
              put.1,
              led-all_kept tree,
              weigh-all_kept (λ _. 0) (count_of_elements is_element) tree,
              weigh-all_kept (count_of_elements is_element) (λ _. 0) tree,
            );
      }

  pub touched-moving : (from parent : List ℕ) (index : ℕ) (tree : Forest (Keyed L)) → NamesNode from tree → HasRoom (once_out from parent) index (removed_at from tree)
      → AreTouched is_element weight (moving from parent index tree) (moving_touches from parent index tree)
  touched-moving from parent index tree named room =
      let its = names-tree from tree named in
      let first = removal from tree in
      let new = moved from parent index tree in
      let is : moving from parent index tree ≡ put_at (once_out from parent) index its.0 its.1 first = ap (λ g. put_fragment (once_out from parent) index g first) its.3 in
      let put =
      put-within first its.0 its.1 its.2 (once_out from parent) index new (only-removal from tree) (subst (HasRoom (once_out from parent) index) (sym (new-removal from tree)) room)
      (ap (inserted_at (once_out from parent) index (Tree its.0 its.1 its.2)) (new-removal from tree) ∙ ap (λ g. inserted_at (once_out from parent) index g (removed_at from tree)) (sym its.3)) in
      let touched : AreTouched is_element weight (put_at (once_out from parent) index its.0 its.1 first) (moving_touches from parent index tree) = record {
        places = omega (arith, put.0, weigh-removal (λ _. 1) (λ _. 1) from tree);
        few =
            omega (
              arith,
              put.1,
              led-removal from tree,
              weigh-removal (λ _. 0) (count_of_elements is_element) from tree,
              weigh-removal (count_of_elements is_element) (λ _. 0) from tree,
              elements-within (alone (on_path from tree)),
              way-within (on_way from tree),
            );
      } in
      subst (λ m. AreTouched is_element weight m (moving_touches from parent index tree)) (sym is) touched

module _ {L K H : Type 0} (e : Evaluator L K H) (weight : ℕ → ℕ) (heavy : (k : ℕ) → 1 ≤ weight k) where
  -- What elements are handed.

  differing-append : (before xs ys : List (ℕ × H)) → weigh_differing e weight before (xs ++ ys) ≡ weigh_differing e weight before xs + weigh_differing e weight before ys
  differing-append before [] ys = omega arith
  differing-append before (x ∷ xs) ys = omega (arith, differing-append before xs ys)

  differs-one : (b : Bool) (k : ℕ) → cond {A = ℕ} b 0 1 ≤ cond b 0 (weight k) + 0
  differs-one true k = omega arith
  differs-one false k = omega (arith, heavy k)

  differs-own : (before : List (ℕ × H)) (n : Keyed L) (i j : H) (b : Bool) → e.is_element n.label ≡ b → Holds (first_at before) (input e n j)
      → cond {A = ℕ} b (cond (e.is_same i j) 0 1) 0 ≤ weigh_differing e weight before (input e n i)
  differs-own before n i j true is h =
      let its = All-head (λ (x : ℕ × H). first_at before x.0 ≡ Some x.1) (n.key, j) [] (subst (λ b. Holds (first_at before) (cond b ((n.key, j) ∷ []) [])) is h) in
      rw (is, its) (differs-one (e.is_same i j) n.key)
  differs-own before n i j false is h = omega arith

  -- the elements that are handed something else, by their keys
  others-within : (before : List (ℕ × H)) (m : Merge L) (i j : H) → Holds (first_at before) (inputs e j (old_of m)) → other_count e i j m ≤ weigh_differing e weight before (inputs e i (new_of m))
  others-within before End i j h = omega arith
  others-within before (Kept n c r) i j h =
      let x = past_all e (e.within n i) (new_of c) in
      let y = past_all e (e.within n j) (old_of c) in
      let has = λ (x : ℕ × H). first_at before x.0 ≡ Some x.1 in
      let rest = all-right has (input e n j) _ h in
      omega (
        arith,
        differs-own before n i j (e.is_element n.label) refl (all-left has (input e n j) _ h),
        others-within before c (e.within n i) (e.within n j) (all-left has (inputs e (e.within n j) (old_of c)) _ rest),
        others-within before r (e.past n i x) (e.past n j y) (all-right has (inputs e (e.within n j) (old_of c)) _ rest),
        differing-append before (input e n i) (inputs e (e.within n i) (new_of c) ++ inputs e (e.past n i x) (new_of r)),
        differing-append before (inputs e (e.within n i) (new_of c)) (inputs e (e.past n i x) (new_of r)),
      )
  others-within before (Turned was n c r) i j h =
      let x = past_all e (e.within n i) (new_of c) in
      let y = past_all e (e.within was j) (old_of c) in
      let has = λ (x : ℕ × H). first_at before x.0 ≡ Some x.1 in
      let rest = all-right has (input e was j) _ h in
      omega (
        arith,
        others-within before c (e.within n i) (e.within was j) (all-left has (inputs e (e.within was j) (old_of c)) _ rest),
        others-within before r (e.past n i x) (e.past was j y) (all-right has (inputs e (e.within was j) (old_of c)) _ rest),
        differing-append before (input e n i) (inputs e (e.within n i) (new_of c) ++ inputs e (e.past n i x) (new_of r)),
        differing-append before (inputs e (e.within n i) (new_of c)) (inputs e (e.past n i x) (new_of r)),
      )
  others-within before (Gone n c r) i j h =
      let y = past_all e (e.within n j) c in
      let has = λ (x : ℕ × H). first_at before x.0 ≡ Some x.1 in
      others-within before r i (e.past n j y) (all-right has (inputs e (e.within n j) c) _ (all-right has (input e n j) _ h))
  others-within before (Come n c r) i j h =
      let x = past_all e (e.within n i) c in
      omega (
        arith,
        others-within before r (e.past n i x) j h,
        differing-append before (input e n i) (inputs e (e.within n i) c ++ inputs e (e.past n i x) (new_of r)),
        differing-append before (inputs e (e.within n i) c) (inputs e (e.past n i x) (new_of r)),
      )

  -- The bound.

  -- a merge is paid for where what it leads to, what comes and what goes is touched
  paid : (m : Merge L) (old new : Forest (Keyed L)) (touched : Touched L) (i j : H) (before : List (ℕ × H)) → old_of m ≡ old → new_of m ≡ new → Holds (first_at before) (inputs e j old)
      → AreTouched e.is_element weight m touched → IsPaid e weight i j m touched before (inputs e i new)
  paid m old new touched i j before old_is new_is h its =
      let others : other_count e i j m ≤ weigh_differing e weight before (inputs e i new) =
      subst (λ g. other_count e i j m ≤ weigh_differing e weight before (inputs e i g)) new_is
      (others-within before m i j (subst (λ g. Holds (first_at before) (inputs e j g)) (sym old_is) h)) in
      omega (arith, others, its.places, its.few, anew-within e m i j)

  pub paid-removal : (path : List ℕ) (tree : Forest (Keyed L)) (i j : H) (before : List (ℕ × H)) → Holds (first_at before) (inputs e j tree)
      → IsPaid e weight i j (removal path tree) (removal_touches path tree) before (inputs e i (removed_at path tree))
  paid-removal path tree i j before h =
      paid (removal path tree) tree (removed_at path tree) (removal_touches path tree) i j before (old-removal path tree) (new-removal path tree) h
      (touched-removal e.is_element weight heavy path tree)

  pub paid-relabelling : (path : List ℕ) (change : Keyed L → Keyed L) (tree : Forest (Keyed L)) (i j : H) (before : List (ℕ × H)) → Holds (first_at before) (inputs e j tree)
      → IsPaid e weight i j (relabelling path change tree) (relabelling_touches path change tree) before (inputs e i (relabelled_at path change tree))
  paid-relabelling path change tree i j before h =
      paid (relabelling path change tree) tree (relabelled_at path change tree) (relabelling_touches path change tree) i j before (old-relabelling path change tree) (new-relabelling path change tree) h
      (touched-relabelling e.is_element weight heavy path change tree)

  pub paid-insertion : (parent : List ℕ) (index : ℕ) (fragment tree : Forest (Keyed L)) (i j : H) (before : List (ℕ × H)) → HasRoom parent index tree → Holds (first_at before) (inputs e j tree)
      → IsPaid e weight i j (insertion parent index fragment tree) (insertion_touches parent index fragment tree) before (inputs e i (inserted_at parent index fragment tree))
  paid-insertion parent index fragment tree i j before room h =
      paid (insertion parent index fragment tree) tree (inserted_at parent index fragment tree) (insertion_touches parent index fragment tree) i j before
      (old-insertion parent index fragment tree) (new-insertion parent index fragment tree) h
      (touched-insertion e.is_element weight heavy parent index fragment tree room)

  pub paid-moving : (from parent : List ℕ) (index : ℕ) (tree : Forest (Keyed L)) (i j : H) (before : List (ℕ × H)) → NamesNode from tree → HasRoom (once_out from parent) index (removed_at from tree)
      → Holds (first_at before) (inputs e j tree) → IsPaid e weight i j (moving from parent index tree) (moving_touches from parent index tree) before (inputs e i (moved from parent index tree))
  paid-moving from parent index tree i j before named room h =
      paid (moving from parent index tree) tree (moved from parent index tree) (moving_touches from parent index tree) i j before
      (old-moving from parent index tree) (new-moving from parent index tree) h
      (touched-moving e.is_element weight heavy from parent index tree named room)

module _ {L K H : Type 0} (e : Evaluator L K H) where
  -- a whole document that comes
  pub budget-all_come : (n : Keyed L) (c : Forest (Keyed L)) (i j : H) → budget e i j (all_come (Tree n c Empty)) ≡ 6 * count_of_elements e.is_element (Tree n c Empty) + 4
  budget-all_come n c i j = omega arith
