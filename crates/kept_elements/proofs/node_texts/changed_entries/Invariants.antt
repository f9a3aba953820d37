use Rattle.std.proofs.Common.{◌≡◌, ◌+◌, take}
use Rattle.kept_elements.specs.Changes.{AreChanges}
use Rattle.kept_elements.specs.Evaluations.{all_kept_of}
use Rattle.kept_elements.proofs.node_texts.changed_entries.Given as goal

abbrev pub invariant-loop-key : goal.invariant-loop-key
invariant-loop-key g l = record {
  changes : AreChanges l.board.held (all_kept_of l.table (g.T.Targets.known l.targets) (take l.key-index l.records)) l.changes.items;
  steps : l.steps ≡ l.fn.steps + l.key-index;
}
