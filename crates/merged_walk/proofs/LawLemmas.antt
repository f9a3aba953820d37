-- The laws, from their lemmas.
use Rattle.std.proofs.Common.{◌≡◌, ◌+◌, ℕ, List, [], ◌∷◌, sym, ap, subst, ◌∙◌, append-nil}
use Rattle.forest.specs.Forest.{Tree}
use Rattle.forest.specs.Keys.{HasDistinctKeys}
use Rattle.forest.specs.Paths.{on_path}
use Rattle.forest.proofs.PathLaws.{first-tree}
use Rattle.node_arena.specs.AtPaths.{once_out}
use Rattle.merged_walk.specs.Merges.{new_of}
use Rattle.merged_walk.specs.Stops.{stops_of}
use Rattle.merged_walk.specs.Evaluators.{inputs, told_all}
use Rattle.merged_walk.specs.Counts.{budget}
use Rattle.merged_walk.specs.WalkTurns.{begun}
use Rattle.merged_walk.specs.Edits.{moving, put_fragment, removal}
use Rattle.merged_walk.specs.EditStops.{moving_stops}
use Rattle.merged_walk.specs.TurnedNodes.{turn_node, with_way}
use Rattle.merged_walk.specs.Laws.{ChangesAreEnough, InsertionsArePaid, InsertionsMerge, InsertionsStop, MovesArePaid, MovesMerge, MovesStop, RelabellingsArePaid, RelabellingsMerge, RelabellingsStop, RemovalsArePaid, RemovalsMerge, RemovalsStop, TurnedNodesStop, TurnsLeaveLess, WalksFindAllChanges, WholeDocumentsCost}
use Rattle.merged_walk.proofs.WalkLaws.{covers-ended, goes_on, spent-within, walks-begun, walks-run}
use Rattle.merged_walk.proofs.SettleLaws.{settles}
use Rattle.merged_walk.proofs.EditLaws.{new-insertion, new-moving, new-relabelling, new-removal, old-insertion, old-moving, old-relabelling, old-removal}
use Rattle.merged_walk.proofs.WayStops.{stops-insertion, stops-relabelling, stops-removal}
use Rattle.merged_walk.proofs.MoveLaws.{stops-moving}
use Rattle.merged_walk.proofs.RoomLaws.{room-before}
use Rattle.merged_walk.proofs.TurnedStops.{adds}
use Rattle.merged_walk.proofs.InputLaws.{holds-inputs}
use Rattle.merged_walk.proofs.WorkLaws.{budget-all_come, paid-insertion, paid-moving, paid-relabelling, paid-removal, tree-named}

pub removals_merge : (L : Type 0) → RemovalsMerge L
removals_merge L path tree = record { old = old-removal path tree; new = new-removal path tree }

pub relabellings_merge : (L : Type 0) → RelabellingsMerge L
relabellings_merge L path change tree = record { old = old-relabelling path change tree; new = new-relabelling path change tree }

pub insertions_merge : (L : Type 0) → InsertionsMerge L
insertions_merge L parent index fragment tree = record { old = old-insertion parent index fragment tree; new = new-insertion parent index fragment tree }

pub moves_merge : (L : Type 0) → MovesMerge L
moves_merge L from parent index tree = record { old = old-moving from parent index tree; new = new-moving from parent index tree }

pub removals_stop : (L : Type 0) → RemovalsStop L
removals_stop L is_element path tree named elements = stops-removal is_element path tree named elements

pub relabellings_stop : (L : Type 0) → RelabellingsStop L
relabellings_stop L is_element path change tree same named elements = stops-relabelling is_element change same path tree named elements

pub insertions_stop : (L : Type 0) → InsertionsStop L
insertions_stop L is_element parent index node children tree room elements = stops-insertion is_element parent index node children tree room elements

pub moves_stop : (L : Type 0) → MovesStop L
moves_stop L is_element step above parent index key tree apart names parent_named room distinct elements others =
    let from : List ℕ = step ∷ above in
    let its = first-tree (on_path from tree) key names in
    let named = tree-named from tree its.0 its.1 its.2 its.3 in
    let is : moving from parent index tree ≡ put_fragment (once_out from parent) index (Tree its.0 its.1 its.2) (removal from tree) =
    ap (λ g. put_fragment (once_out from parent) index g (removal from tree)) its.3 in
    let keys = subst HasDistinctKeys (sym (new-moving from parent index tree) ∙ ap new_of is) distinct in
    ap (stops_of is_element 0) is ∙ stops-moving its.0 its.1 is_element step above parent index tree apart named (room-before step above parent index tree apart named parent_named room) keys elements others
    ∙ ap (λ key. moving_stops is_element from parent index key tree) its.4

pub turned_nodes_stop : (L : Type 0) → TurnedNodesStop L
turned_nodes_stop L is_element earlier change irreflexive same way merge reaches =
    let stops = stops_of is_element 0 (turn_node is_element earlier change way merge reaches) in
    sym (append-nil stops) ∙ adds is_element earlier irreflexive change same way merge 0 [] reaches tt
    ∙ ap (with_way earlier 0 way) (append-nil (stops_of is_element 0 merge))

pub walks_find_all_changes : (L K H : Type 0) → WalksFindAllChanges L K H
walks_find_all_changes L K H evaluator sound handed was_handed merge held spent distinct holds last run ended =
    let all = told_all evaluator handed (new_of merge) in
    let most = spent + budget evaluator handed was_handed merge in
    let first = begun evaluator handed was_handed merge spent in
    let w = walks-run evaluator held all most sound first last run (walks-begun evaluator merge handed was_handed held spent distinct holds) in
    record { covers = covers-ended evaluator held all most last ended w; told = w.among; few = spent-within evaluator held all most last w }

pub turns_leave_less : (L K H : Type 0) → TurnsLeaveLess L K H
turns_leave_less L K H evaluator sound handed was_handed merge held spent distinct holds now next run turn =
    let all = told_all evaluator handed (new_of merge) in
    let most = spent + budget evaluator handed was_handed merge in
    let first = begun evaluator handed was_handed merge spent in
    let w = walks-run evaluator held all most sound first now run (walks-begun evaluator merge handed was_handed held spent distinct holds) in
    (goes_on evaluator held all most sound now next turn w).1

pub changes_are_enough : (R : Type 0) → ChangesAreEnough R
changes_are_enough R all changes takes held agree among covers stays goes key = settles all changes takes held agree among covers stays goes key

pub removals_are_paid : (L K H : Type 0) → RemovalsArePaid L K H
removals_are_paid L K H evaluator weight heavy handed was_handed tree distinct path =
    paid-removal evaluator weight heavy path tree handed was_handed (inputs evaluator was_handed tree) (holds-inputs evaluator was_handed tree distinct)

pub relabellings_are_paid : (L K H : Type 0) → RelabellingsArePaid L K H
relabellings_are_paid L K H evaluator weight heavy handed was_handed tree distinct path change =
    paid-relabelling evaluator weight heavy path change tree handed was_handed (inputs evaluator was_handed tree) (holds-inputs evaluator was_handed tree distinct)

pub insertions_are_paid : (L K H : Type 0) → InsertionsArePaid L K H
insertions_are_paid L K H evaluator weight heavy handed was_handed tree distinct parent index fragment room =
    paid-insertion evaluator weight heavy parent index fragment tree handed was_handed (inputs evaluator was_handed tree) room (holds-inputs evaluator was_handed tree distinct)

pub moves_are_paid : (L K H : Type 0) → MovesArePaid L K H
moves_are_paid L K H evaluator weight heavy handed was_handed tree distinct from parent index named room =
    paid-moving evaluator weight heavy from parent index tree handed was_handed (inputs evaluator was_handed tree) named room (holds-inputs evaluator was_handed tree distinct)

pub whole_documents_cost : (L K H : Type 0) → WholeDocumentsCost L K H
whole_documents_cost L K H evaluator handed was_handed root children = budget-all_come evaluator root children handed was_handed
