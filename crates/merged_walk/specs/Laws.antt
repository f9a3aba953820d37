-- Laws of merges: of the edits whose merges they are, of their stops, of walks over them, and of the work of edits.
use Rattle.std.specs.Prelude.{◌≡◌, ◌==◌, ◌⊎◌, ◌+◌, ◌*◌, ◌<◌, ◌≤◌, ℕ, Bool, true, false, List, [], ◌∷◌, ◌++◌, Option, Some, None, Contains}
use Rattle.std.specs.List.{list_any}
use Rattle.forest.specs.Forest.{Forest, Empty, Tree}
use Rattle.forest.specs.Keys.{Keyed, HasDistinctKeys}
use Rattle.forest.specs.Paths.{key_at}
use Rattle.node_arena.specs.AtPaths.{inserted_at, leads_into, moved, once_out, relabelled_at, removed_at}
use Rattle.merged_walk.specs.Merges.{Merge, new_of, old_of, all_come}
use Rattle.merged_walk.specs.Stops.{stops_of}
use Rattle.merged_walk.specs.Evaluators.{Evaluator, IsSound, count_of_elements, inputs, told_all}
use Rattle.merged_walk.specs.Entries.{AgreeByKeys, AreAmong, Covers, Holds, first_at, put_over}
use Rattle.merged_walk.specs.Counts.{budget}
use Rattle.merged_walk.specs.Walks.{State, left}
use Rattle.merged_walk.specs.WalkTurns.{IsEnded, Run, WalkTurn, begun}
use Rattle.merged_walk.specs.Edits.{insertion, moving, relabelling, removal}
use Rattle.merged_walk.specs.EditStops.{HasRoom, IsUnderElements, NamesNode, insertion_stops, moving_stops, old_index, relabelling_stops, removal_stops}
use Rattle.merged_walk.specs.TurnedNodes.{Reaches, turn_node, with_way}
use Rattle.merged_walk.specs.Work.{IsPaid, Touched, insertion_touches, moving_touches, relabelling_touches, removal_touches}

-- Edits.

-- the merge is that of the tree before an edit and the one after it
pub record Merges {L : Type 0} (merge : Merge L) (before after : Forest (Keyed L)) : Type 0 where
  pub old : old_of merge ≡ before
  pub new : new_of merge ≡ after

abbrev pub RemovalsMerge : (L : Type 0) → Type 0
RemovalsMerge L = (path : List ℕ) (tree : Forest (Keyed L)) → Merges (removal path tree) tree (removed_at path tree)

abbrev pub RelabellingsMerge : (L : Type 0) → Type 0
RelabellingsMerge L =
    (path : List ℕ) (change : Keyed L → Keyed L) (tree : Forest (Keyed L)) → Merges (relabelling path change tree) tree (relabelled_at path change tree)

abbrev pub InsertionsMerge : (L : Type 0) → Type 0
InsertionsMerge L =
    (parent : List ℕ) (index : ℕ) (fragment tree : Forest (Keyed L)) → Merges (insertion parent index fragment tree) tree (inserted_at parent index fragment tree)

abbrev pub MovesMerge : (L : Type 0) → Type 0
MovesMerge L = (from parent : List ℕ) (index : ℕ) (tree : Forest (Keyed L)) → Merges (moving from parent index tree) tree (moved from parent index tree)

-- Stops. Those of an edit are told by paths in the tree before it, where all nodes above its places are elements.

abbrev pub RemovalsStop : (L : Type 0) → Type 0
RemovalsStop L =
    (is_element : L → Bool) (path : List ℕ) (tree : Forest (Keyed L)) → NamesNode path tree → IsUnderElements is_element path tree
    → stops_of is_element 0 (removal path tree) ≡ removal_stops is_element path tree

abbrev pub RelabellingsStop : (L : Type 0) → Type 0
RelabellingsStop L =
    (is_element : L → Bool) (path : List ℕ) (change : Keyed L → Keyed L) (tree : Forest (Keyed L)) → ((node : Keyed L) → (change node).key ≡ node.key)
    → NamesNode path tree → IsUnderElements is_element path tree → stops_of is_element 0 (relabelling path change tree) ≡ relabelling_stops is_element path tree

abbrev pub InsertionsStop : (L : Type 0) → Type 0
InsertionsStop L =
    (is_element : L → Bool) (parent : List ℕ) (index : ℕ) (node : Keyed L) (children tree : Forest (Keyed L)) → HasRoom parent index tree
    → IsUnderElements is_element (parent ++ index ∷ []) tree
    → stops_of is_element 0 (insertion parent index (Tree node children Empty) tree) ≡ insertion_stops is_element (parent ++ index ∷ []) node.key tree

-- a node but the root is moved, and not into itself
abbrev pub MovesStop : (L : Type 0) → Type 0
MovesStop L =
    (is_element : L → Bool) (step : ℕ) (above parent : List ℕ) (index key : ℕ) (tree : Forest (Keyed L))
    → let from : List ℕ = step ∷ above in
    let place : List ℕ = parent ++ old_index from parent index ∷ [] in
    leads_into from parent ≡ false → key_at tree from ≡ Some key → NamesNode parent tree → HasRoom (once_out from parent) index (removed_at from tree)
    → HasDistinctKeys (moved from parent index tree) → IsUnderElements is_element from tree → IsUnderElements is_element place tree
    → stops_of is_element 0 (moving from parent index tree) ≡ moving_stops is_element from parent index key tree

-- a node more that is turned adds the stops on the way to it
abbrev pub TurnedNodesStop : (L : Type 0) → Type 0
TurnedNodesStop L =
    (is_element : L → Bool) (earlier : ℕ → ℕ → Bool) (change : Keyed L → Keyed L) → ((key : ℕ) → earlier key key ≡ false) → ((node : Keyed L) → (change node).key ≡ node.key)
    → (way : List ℕ) (merge : Merge L) (reaches : Reaches is_element earlier way merge)
    → stops_of is_element 0 (turn_node is_element earlier change way merge reaches) ≡ with_way earlier 0 way (stops_of is_element 0 merge)

-- Walks.

-- at its end a walk has found changes that are told, and all that is told is held or found; and no more was spent
-- than the budget
pub record Finds {L K H : Type 0} (evaluator : Evaluator L K H) (handed was_handed : H) (merge : Merge L) (held : ℕ → Option K) (spent : ℕ) (last : State L K H) : Type 0 where
  pub covers : Covers last.changes held (told_all evaluator handed (new_of merge))
  pub told : AreAmong last.changes (told_all evaluator handed (new_of merge))
  pub few : last.spent ≤ spent + budget evaluator handed was_handed merge

-- whichever turns a walk takes, where what the old evaluation told is held, and the new forest has distinct keys
abbrev pub WalksFindAllChanges : (L K H : Type 0) → Type 0
WalksFindAllChanges L K H =
    (evaluator : Evaluator L K H) → IsSound evaluator → (handed was_handed : H) (merge : Merge L) (held : ℕ → Option K) (spent : ℕ)
    → HasDistinctKeys (new_of merge) → Holds held (told_all evaluator was_handed (old_of merge))
    → (last : State L K H) → Run evaluator (begun evaluator handed was_handed merge spent) last → IsEnded last → Finds evaluator handed was_handed merge held spent last

-- and each turn leaves less to walk
abbrev pub TurnsLeaveLess : (L K H : Type 0) → Type 0
TurnsLeaveLess L K H =
    (evaluator : Evaluator L K H) → IsSound evaluator → (handed was_handed : H) (merge : Merge L) (held : ℕ → Option K) (spent : ℕ)
    → HasDistinctKeys (new_of merge) → Holds held (told_all evaluator was_handed (old_of merge))
    → (now next : State L K H) → Run evaluator (begun evaluator handed was_handed merge spent) now → WalkTurn evaluator now next → left next < left now

-- Changes that cover all that is told, put where it was held, give all that is told and no more, where what is no
-- longer told was taken out before.
abbrev pub ChangesAreEnough : (R : Type 0) → Type 0
ChangesAreEnough R =
    (all changes : List (ℕ × R)) (takes : List ℕ) (held : ℕ → Option R) → AgreeByKeys all → AreAmong changes all → Covers changes held all
    → ((key : ℕ) (value : R) → Contains all (key, value) → list_any (λ taken. taken == key) takes ≡ false)
    → ((key : ℕ) → ((value : R) → Contains all (key, value) → ⊥) → (held key ≡ None) ⊎ (list_any (λ taken. taken == key) takes ≡ true))
    → (key : ℕ) → put_over changes takes held key ≡ first_at all key

-- Work. It pays for the walk of each edit of a tree with distinct keys, whatever keys weigh, as long as each weighs
-- something. Before and after the edit each element is handed what the two evaluations hand it.

abbrev pub WorkPays : (L K H : Type 0) → (Evaluator L K H → (weight : ℕ → ℕ) (handed was_handed : H) (tree : Forest (Keyed L)) → Type 0) → Type 0
WorkPays L K H Pays =
    (evaluator : Evaluator L K H) (weight : ℕ → ℕ) → ((key : ℕ) → 1 ≤ weight key) → (handed was_handed : H) (tree : Forest (Keyed L)) → HasDistinctKeys tree
    → Pays evaluator weight handed was_handed tree

-- the work on the way from one tree to another pays
abbrev pub IsPaidBetween : {L K H : Type 0} → Evaluator L K H → (ℕ → ℕ) → (handed was_handed : H) → Merge L → Touched L → (before after : Forest (Keyed L)) → Type 0
IsPaidBetween evaluator weight handed was_handed merge touched before after =
    IsPaid evaluator weight handed was_handed merge touched (inputs evaluator was_handed before) (inputs evaluator handed after)

abbrev pub RemovalsArePaid : (L K H : Type 0) → Type 0
RemovalsArePaid L K H =
    WorkPays L K H (λ evaluator weight handed was_handed tree. (path : List ℕ)
    → IsPaidBetween evaluator weight handed was_handed (removal path tree) (removal_touches path tree) tree (removed_at path tree))

abbrev pub RelabellingsArePaid : (L K H : Type 0) → Type 0
RelabellingsArePaid L K H =
    WorkPays L K H (λ evaluator weight handed was_handed tree. (path : List ℕ) (change : Keyed L → Keyed L)
    → IsPaidBetween evaluator weight handed was_handed (relabelling path change tree) (relabelling_touches path change tree) tree (relabelled_at path change tree))

abbrev pub InsertionsArePaid : (L K H : Type 0) → Type 0
InsertionsArePaid L K H =
    WorkPays L K H (λ evaluator weight handed was_handed tree. (parent : List ℕ) (index : ℕ) (fragment : Forest (Keyed L)) → HasRoom parent index tree
    → IsPaidBetween evaluator weight handed was_handed (insertion parent index fragment tree) (insertion_touches parent index fragment tree) tree (inserted_at parent index fragment tree))

abbrev pub MovesArePaid : (L K H : Type 0) → Type 0
MovesArePaid L K H =
    WorkPays L K H (λ evaluator weight handed was_handed tree. (from parent : List ℕ) (index : ℕ) → NamesNode from tree → HasRoom (once_out from parent) index (removed_at from tree)
    → IsPaidBetween evaluator weight handed was_handed (moving from parent index tree) (moving_touches from parent index tree) tree (moved from parent index tree))

-- a whole document that comes
abbrev pub WholeDocumentsCost : (L K H : Type 0) → Type 0
WholeDocumentsCost L K H =
    (evaluator : Evaluator L K H) (handed was_handed : H) (root : Keyed L) (children : Forest (Keyed L))
    → let document : Forest (Keyed L) = Tree root children Empty in
    budget evaluator handed was_handed (all_come document) ≡ 6 * count_of_elements evaluator.is_element document + 4
