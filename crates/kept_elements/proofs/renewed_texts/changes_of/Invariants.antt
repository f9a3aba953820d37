use Rattle.std.proofs.Common.{◌≤◌, ◌+◌, nat_eq, option_copied, take}
use Rattle.std.specs.HashMap.{get}
use Rattle.kept_elements.specs.Changes.{AreChanges}
use Rattle.kept_elements.specs.Machinery.Renewals.{renewed_kept}
use Rattle.kept_elements.proofs.renewed_texts.changes_of.Given as goal

abbrev pub invariant-loop-key : goal.invariant-loop-key
invariant-loop-key g l = record {
  changes : AreChanges l.board.held (renewed_kept l.table (g.T.Targets.known l.targets) (λ key. option_copied (get nat_eq l.records key)) (take l.key-index l.keys)) l.changes.items;
  steps : l.steps ≤ l.fn.steps + l.key-index;
}
