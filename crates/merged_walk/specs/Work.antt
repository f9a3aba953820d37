-- How much of a document an edit touches, told by trees, paths and what elements are handed (our own). It knows no
-- merge.
use Rattle.std.specs.Prelude.{ℕ, ◌+◌, ◌*◌, ◌≤◌, List, [], ◌∷◌, ◌++◌, if◌then◌else◌, sum_by}
use Rattle.std.specs.Option.{option_map_or}
use Rattle.forest.specs.Forest.{Forest}
use Rattle.forest.specs.Keys.{Keyed}
use Rattle.forest.specs.Paths.{on_path}
use Rattle.node_arena.specs.AtPaths.{inserted_at, moved, once_out, relabelled_at}
use Rattle.node_arena.specs.Changes.{alone}
use Rattle.merged_walk.specs.Merges.{Merge}
use Rattle.merged_walk.specs.Evaluators.{Evaluator, weigh_elements}
use Rattle.merged_walk.specs.Entries.{first_at}
use Rattle.merged_walk.specs.Counts.{budget, gone_count, led_count}
use Rattle.merged_walk.specs.EditStops.{on_way}

-- The trees that an edit puts in, takes out, moves or changes, each as it stands in the tree before the edit or after
-- it; and of each place the nodes above it.
pub record Touched (L : Type 0) : Type 0 where
  pub trees : List (Forest (Keyed L))
  pub ways : List (List (Keyed L))

module _ {L : Type 0} where
  abbrev pub removal_touches : List ℕ → Forest (Keyed L) → Touched L
  removal_touches path tree = record { trees = alone (on_path path tree) ∷ []; ways = on_way path tree ∷ [] }

  abbrev pub relabelling_touches : List ℕ → (Keyed L → Keyed L) → Forest (Keyed L) → Touched L
  relabelling_touches path change tree =
      record { trees = alone (on_path path tree) ∷ (alone (on_path path (relabelled_at path change tree)) ∷ []); ways = on_way path tree ∷ [] }

  abbrev pub insertion_touches : List ℕ → ℕ → Forest (Keyed L) → Forest (Keyed L) → Touched L
  insertion_touches parent index fragment tree =
      let new : Forest (Keyed L) = inserted_at parent index fragment tree in
      let place : List ℕ = parent ++ index ∷ [] in
      record { trees = alone (on_path place new) ∷ []; ways = on_way place new ∷ [] }

  abbrev pub moving_touches : List ℕ → List ℕ → ℕ → Forest (Keyed L) → Touched L
  moving_touches from parent index tree =
      let new : Forest (Keyed L) = moved from parent index tree in
      let place : List ℕ = once_out from parent ++ index ∷ [] in
      record { trees = alone (on_path place new) ∷ (alone (on_path from tree) ∷ []); ways = on_way place new ∷ (on_way from tree ∷ []) }

module _ {L K H : Type 0} (evaluator : Evaluator L K H) (weight : ℕ → ℕ) where
  -- the elements that are handed something in both evaluations, and not the same
  abbrev pub weigh_differing : (before now : List (ℕ × H)) → ℕ
  weigh_differing before [] = 0
  weigh_differing before (input ∷ inputs) =
      option_map_or (λ was. if evaluator.is_same input.1 was then 0 else weight input.0) (first_at before input.0) 0 + weigh_differing before inputs

  -- The weights of what is touched, added up: all elements of the trees, the elements that are handed something
  -- else, and the nodes above the places. What falls under several is counted for each.
  abbrev pub work : Touched L → (before now : List (ℕ × H)) → ℕ
  work touched before now =
      sum_by (weigh_elements evaluator.is_element weight) touched.trees
      + weigh_differing before now
      + sum_by (λ way. sum_by (λ (node : Keyed L). weight node.key) way) touched.ways

  -- The work pays twice for a walk over a merge and for 2 steps at each node that it is led into, and for taking out what
  -- was kept of the trees that go: what a walk has found may be read once more.
  abbrev pub IsPaid : (handed was_handed : H) → Merge L → Touched L → (before now : List (ℕ × H)) → Type 0
  IsPaid handed was_handed merge touched before now =
      (2 * (budget evaluator handed was_handed merge + 2 * led_count merge) + gone_count evaluator.is_element merge) ≤ 24 * (work touched before now + 1)
