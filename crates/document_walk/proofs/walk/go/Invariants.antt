use Rattle.std.proofs.Common.{◌≡◌, ℕ, Option}
use Rattle.box_eval.specs.Evaluation.{StyledNode}
use Rattle.merged_walk.specs.Merges.{Merge}
use Rattle.surroundings.specs.declared.told.Told.{Told}
use Rattle.document_walk.specs.Catching.{reading, stops_left}
use Rattle.document_walk.specs.CatchingUp.{CanCatchUp}
use Rattle.document_walk.specs.Machinery.Standing.{left_of}
use Rattle.document_walk.proofs.BeginningLemmas.{IsUnderWay}
use Rattle.document_walk.proofs.walk.go.Given as goal

-- the document stays, and where the walk can be over a merge, it is under way there
abbrev pub invariant-turns : goal.invariant-turns
invariant-turns g l =
    let from = reading g.T.Starts.starts l.sources in
    let kept = g.B.Snapshots.kept l.board in
    (l.siblings ≡ l.sources.arena.now.tree) × ((merge : Merge StyledNode) (held : ℕ → Option Told) → CanCatchUp from kept (stops_left l.fn.walk) merge held → IsUnderWay from kept merge held l.fn.steps l.fn.walk.changes l.walk l.steps)

abbrev pub decreases-turns : goal.decreases-turns
decreases-turns g l = left_of (reading g.T.Starts.starts l.sources) l.walk
