-- The stops of one place: those into the nodes above it, and its own. Throughout, d is a depth, n a node, c what is
-- under it, r what is after it, g trees; z is a node that comes with zs under it.
use Rattle.std.proofs.Common.{◌≡◌, ◌||◌, ◌+◌, ◌≤◌, ℕ, zero, suc, Bool, true, cond, List, [], ◌∷◌, ◌++◌, length, Some, refl, ap, ◌∙◌, arith}
use Rattle.std.proofs.lemmas.Bool.{or_left}
use Rattle.forest.specs.Forest.{Forest, Empty, Tree}
use Rattle.forest.specs.Keys.{Keyed}
use Rattle.forest.specs.Paths.{on_path, trees_from}
use Rattle.forest.specs.Spots.{first_key, roots}
use Rattle.merged_walk.specs.declared.stop.Stop.{Stop}
use Rattle.merged_walk.specs.declared.stop.Way.TheVariants.{Past, Inside, Anew}
use Rattle.merged_walk.specs.Merges.{Merge, Kept, Gone, Come, all_kept, old_of, has_place}
use Rattle.merged_walk.specs.Stops.{first_element, stop_at, stops_of}
use Rattle.merged_walk.specs.Edits.{merged_from, merged_at, first_gone, first_changed, come_among, from_new, put_at, removal, relabelling}
use Rattle.merged_walk.specs.EditStops.{HasRoom, IsUnderElements, NamesNode, changed_stops, come_stop, gone_stop, insertion_stops, on_way, relabelling_stops, removal_stops, stop_inside, stops_into}
use Rattle.merged_walk.proofs.MergeLaws.{has_place-all_kept, new-all_kept, old-all_kept}
use Rattle.merged_walk.proofs.StopLaws.{stops-all_kept, stops-beside, stops-under}

module _ {L : Type 0} where
  -- each step of a path leads to a child, or to the end of the children
  abbrev pub Leads : List ℕ → Forest (Keyed L) → Type 0
  Leads [] g = Unit {0}
  Leads (position ∷ path) Empty = ⊥
  Leads (position ∷ path) (Tree n c r) = (position ≤ length (roots c)) × Leads path (trees_from position c)

  within : (position : ℕ) (path : List ℕ) (g : Forest (Keyed L)) → NamesNode path (trees_from position g) → position ≤ length (roots g)
  within zero path g there = omega arith
  within (suc position) [] Empty there = absurd there
  within (suc position) (next ∷ path) Empty there = absurd there
  within (suc position) path (Tree n c r) there = omega (arith, within position path r there)

  pub leads-node : (path : List ℕ) (g : Forest (Keyed L)) → NamesNode path g → Leads path g
  leads-node [] g there = tt
  leads-node (position ∷ path) Empty there = absurd there
  leads-node (position ∷ path) (Tree n c r) there = (within position path c there, leads-node path (trees_from position c) there)

  pub leads-room : (path : List ℕ) (index : ℕ) (g : Forest (Keyed L)) → HasRoom path index g → Leads (path ++ index ∷ []) g
  leads-room [] index Empty room = absurd room.0
  leads-room [] index (Tree n c r) room = (room.1, tt)
  leads-room (position ∷ path) index Empty room = absurd room.0
  leads-room (position ∷ path) index (Tree n c r) room = (within position path c room.0, leads-room path index (trees_from position c) room)

  -- An insertion is one place, before the trees at its path.

  abbrev pub first_come : Keyed L → Forest (Keyed L) → Forest (Keyed L) → Merge L
  first_come z zs g = Come z zs (all_kept g)

  module _ (z : Keyed L) (zs : Forest (Keyed L)) where
    come_among-all_kept : (index : ℕ) (g : Forest (Keyed L)) → index ≤ length (roots g) → come_among index z zs (all_kept g) ≡ merged_from (first_come z zs) index g
    come_among-all_kept zero g few = refl
    come_among-all_kept (suc index) Empty few = absurd (omega (arith, few))
    come_among-all_kept (suc index) (Tree n c r) few = ap (Kept n (all_kept c)) (come_among-all_kept index r (omega (arith, few)))

    from_new-all_kept : (change : Merge L → Merge L) (edit : Forest (Keyed L) → Merge L) (position : ℕ) (g : Forest (Keyed L)) → position ≤ length (roots g)
        → change (all_kept (trees_from position g)) ≡ edit (trees_from position g) → from_new change position (all_kept g) ≡ merged_from edit position g
    from_new-all_kept change edit zero Empty few same = same
    from_new-all_kept change edit zero (Tree n c r) few same = same
    from_new-all_kept change edit (suc position) Empty few same = absurd (omega (arith, few))
    from_new-all_kept change edit (suc position) (Tree n c r) few same = ap (Kept n (all_kept c)) (from_new-all_kept change edit position r (omega (arith, few)) same)

    pub put_at-all_kept : (path : List ℕ) (index : ℕ) (g : Forest (Keyed L)) → HasRoom path index g → put_at path index z zs (all_kept g) ≡ merged_at (first_come z zs) (path ++ index ∷ []) g
    put_at-all_kept [] index Empty room = absurd room.0
    put_at-all_kept [] index (Tree n c r) room = ap (λ c. Kept n c (all_kept r)) (come_among-all_kept index c room.1)
    put_at-all_kept (position ∷ path) index Empty room = absurd room.0
    put_at-all_kept (position ∷ path) index (Tree n c r) room =
        ap (λ c. Kept n c (all_kept r))
        (from_new-all_kept (put_at path index z zs) (merged_at (first_come z zs) (path ++ index ∷ [])) position c (within position path c room.0)
        (put_at-all_kept path index (trees_from position c) room))

module _ {L : Type 0} (is_element : L → Bool) where
  module _ (change : Forest (Keyed L) → Merge L) where
    -- trees before a position have no stops
    stops-merged_from : (d position : ℕ) (g : Forest (Keyed L)) → position ≤ length (roots g) → stops_of is_element d (merged_from change position g) ≡ stops_of is_element d (change (trees_from position g))
    stops-merged_from d zero g few = refl
    stops-merged_from d (suc position) Empty few = absurd (omega (arith, few))
    stops-merged_from d (suc position) (Tree n c r) few =
        stops-beside is_element d n (all_kept c) (merged_from change position r) (has_place-all_kept c) ∙ stops-merged_from d position r (omega (arith, few))

    has_place-merged_from : (position : ℕ) (g : Forest (Keyed L)) → position ≤ length (roots g) → has_place (merged_from change position g) ≡ has_place (change (trees_from position g))
    has_place-merged_from zero g few = refl
    has_place-merged_from (suc position) Empty few = absurd (omega (arith, few))
    has_place-merged_from (suc position) (Tree n c r) few = ap (λ b. b || has_place (merged_from change position r)) (has_place-all_kept c) ∙ has_place-merged_from position r (omega (arith, few))

  has_place-merged_at : (change : Forest (Keyed L) → Merge L) (path : List ℕ) (g : Forest (Keyed L)) → Leads path g → has_place (change (on_path path g)) ≡ true → has_place (merged_at change path g) ≡ true
  has_place-merged_at change [] g leads some = some
  has_place-merged_at change (position ∷ path) Empty leads some = absurd leads
  has_place-merged_at change (position ∷ path) (Tree n c r) leads some =
      or_left (has_place (merged_from (merged_at change path) position c)) (has_place (all_kept r))
      (has_place-merged_from (merged_at change path) position c leads.0 ∙ has_place-merged_at change path (trees_from position c) leads.1 some)

  -- the stop of an element with a place under it is the one into it
  stop-inside : (d : ℕ) (n : Keyed L) (inner : Merge L) (r : Merge L) → is_element n.label ≡ true → stop_at is_element d Inside (Kept n inner r) ≡ stop_inside d n.key
  stop-inside d n inner r element = ap (λ b. record { depth = d; link = Some n.key; way = Inside; from = cond b (Some n.key) (first_element is_element (old_of r)) }) element

  plus_more : (d k : ℕ) → suc d + k ≡ d + suc k
  plus_more d k = omega arith

  -- the stops of a merge at a path
  pub stops-merged_at : (change : Forest (Keyed L) → Merge L) (d : ℕ) (path : List ℕ) (g : Forest (Keyed L)) → Leads path g → has_place (change (on_path path g)) ≡ true → IsUnderElements is_element path g
      → stops_of is_element d (merged_at change path g) ≡ stops_into d (on_way path g) ++ stops_of is_element (d + length (on_way path g)) (change (on_path path g))
  stops-merged_at change d [] g leads some elements = ap (λ k. stops_of is_element k (change g)) (omega arith)
  stops-merged_at change d (position ∷ path) Empty leads some elements = absurd leads
  stops-merged_at change d (position ∷ path) (Tree n c r) leads some elements =
      let inner = merged_from (merged_at change path) position c in
      let below = trees_from position c in
      let here : has_place inner ≡ true = has_place-merged_from (merged_at change path) position c leads.0 ∙ has_place-merged_at change path below leads.1 some in
      stops-under is_element d n inner (all_kept r) here (has_place-all_kept r)
      ∙ ap (λ s. s ∷ stops_of is_element (suc d) inner) (stop-inside d n inner (all_kept r) elements.0)
      ∙ ap (λ rest. stop_inside d n.key ∷ rest)
      (stops-merged_from (merged_at change path) (suc d) position c leads.0 ∙ stops-merged_at change (suc d) path below leads.1 some elements.1
      ∙ ap (λ k. stops_into (suc d) (on_way path below) ++ stops_of is_element k (change (on_path path below))) (plus_more d (length (on_way path below))))

  -- The stops of edits with one place.

  stops-place : (change : Forest (Keyed L) → Merge L) (stops : ℕ → Forest (Keyed L) → List Stop) (path : List ℕ) (g : Forest (Keyed L))
      → ((d : ℕ) → stops_of is_element d (change (on_path path g)) ≡ stops d (on_path path g)) → has_place (change (on_path path g)) ≡ true → Leads path g → IsUnderElements is_element path g
      → stops_of is_element 0 (merged_at change path g) ≡ stops_into 0 (on_way path g) ++ stops (length (on_way path g)) (on_path path g)
  stops-place change stops path g same some leads elements =
      stops-merged_at change 0 path g leads some elements
      ∙ ap (λ k. stops_into 0 (on_way path g) ++ stops_of is_element k (change (on_path path g))) (omega arith)
      ∙ ap (λ after. stops_into 0 (on_way path g) ++ after) (same (length (on_way path g)))

  has_place-gone : (path : List ℕ) (g : Forest (Keyed L)) → NamesNode path g → has_place (first_gone (on_path path g)) ≡ true
  has_place-gone [] Empty there = absurd there
  has_place-gone [] (Tree n c r) there = refl
  has_place-gone (position ∷ path) Empty there = absurd there
  has_place-gone (position ∷ path) (Tree n c r) there = has_place-gone path (trees_from position c) there

  has_place-changed : (change : Keyed L → Keyed L) (path : List ℕ) (g : Forest (Keyed L)) → NamesNode path g → has_place (first_changed change (on_path path g)) ≡ true
  has_place-changed change [] Empty there = absurd there
  has_place-changed change [] (Tree n c r) there = refl
  has_place-changed change (position ∷ path) Empty there = absurd there
  has_place-changed change (position ∷ path) (Tree n c r) there = has_place-changed change path (trees_from position c) there

  stops-gone : (d : ℕ) (g : Forest (Keyed L)) → stops_of is_element d (first_gone g) ≡ gone_stop is_element d g
  stops-gone d Empty = refl
  stops-gone d (Tree n c r) =
      ap (λ after. stop_at is_element d Past (Gone n c (all_kept r)) ∷ after) (stops-all_kept is_element d r)
      ∙ ap (λ g. record { depth = d; link = first_key g; way = Past; from = first_element is_element (Tree n c (old_of (all_kept r))) } ∷ []) (new-all_kept r)
      ∙ ap (λ g. record { depth = d; link = first_key r; way = Past; from = first_element is_element (Tree n c g) } ∷ []) (old-all_kept r)

  stops-come : (d : ℕ) (z : Keyed L) (zs g : Forest (Keyed L)) → stops_of is_element d (first_come z zs g) ≡ come_stop is_element d z.key g ∷ []
  stops-come d z zs g =
      ap (λ after. stop_at is_element d Anew (Come z zs (all_kept g)) ∷ after) (stops-all_kept is_element d g)
      ∙ ap (λ g. come_stop is_element d z.key g ∷ []) (old-all_kept g)

  stops-changed : (change : Keyed L → Keyed L) → ((n : Keyed L) → (change n).key ≡ n.key) → (d : ℕ) (g : Forest (Keyed L)) → stops_of is_element d (first_changed change g) ≡ changed_stops is_element d g
  stops-changed change same d Empty = refl
  stops-changed change same d (Tree n c r) =
      ap (λ after. stop_at is_element d Past (Gone n c (Come (change n) c (all_kept r))) ∷ after) (stops-come d (change n) c r)
      ∙ ap (λ g. record { depth = d; link = Some (change n).key; way = Past; from = first_element is_element (Tree n c g) } ∷ (come_stop is_element d (change n).key r ∷ [])) (old-all_kept r)
      ∙ ap (λ k. record { depth = d; link = Some k; way = Past; from = first_element is_element (Tree n c r) } ∷ (come_stop is_element d k r ∷ [])) (same n)

  pub stops-removal : (path : List ℕ) (g : Forest (Keyed L)) → NamesNode path g → IsUnderElements is_element path g → stops_of is_element 0 (removal path g) ≡ removal_stops is_element path g
  stops-removal path g there elements =
      stops-place first_gone (gone_stop is_element) path g (λ d. stops-gone d (on_path path g)) (has_place-gone path g there) (leads-node path g there) elements

  pub stops-relabelling : (change : Keyed L → Keyed L) → ((n : Keyed L) → (change n).key ≡ n.key) → (path : List ℕ) (g : Forest (Keyed L)) → NamesNode path g → IsUnderElements is_element path g
      → stops_of is_element 0 (relabelling path change g) ≡ relabelling_stops is_element path g
  stops-relabelling change same path g there elements =
      stops-place (first_changed change) (changed_stops is_element) path g (λ d. stops-changed change same d (on_path path g)) (has_place-changed change path g there) (leads-node path g there) elements

  pub stops-insertion : (parent : List ℕ) (index : ℕ) (z : Keyed L) (zs g : Forest (Keyed L)) → HasRoom parent index g → IsUnderElements is_element (parent ++ index ∷ []) g
      → stops_of is_element 0 (put_at parent index z zs (all_kept g)) ≡ insertion_stops is_element (parent ++ index ∷ []) z.key g
  stops-insertion parent index z zs g room elements =
      ap (stops_of is_element 0) (put_at-all_kept z zs parent index g room)
      ∙ stops-place (first_come z zs) (λ d trees. come_stop is_element d z.key trees ∷ []) (parent ++ index ∷ []) g (λ d. stops-come d z zs (on_path (parent ++ index ∷ []) g)) refl
      (leads-room parent index g room) elements
