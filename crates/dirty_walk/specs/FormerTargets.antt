-- The ids that an edit can give another target (our own, over DOM, 4.2.4 and 4.9).
use Rattle.std.specs.Prelude.{◌≡◌, List}
use Rattle.forest.specs.Forest.{Forest}
use Rattle.forest.specs.Keys.{Keyed}
use Rattle.plain_types.specs.declared.edit.Edit.{Edit}
use Rattle.plain_types.specs.declared.node.Node.{Node}
use Rattle.edit_merge.specs.Laws.{IsDone}
use Rattle.reference_reach.specs.ChangedTargets.{Evaluated}
use Rattle.referring_elements.specs.declared.former.FormerTarget.{FormerTarget}
use Rattle.referring_elements.specs.Former.{AreFormerTargets}

-- these are the former targets of each document that the edit makes of this one, whatever is said of its elements
abbrev pub AreFormerTargetsOf : Edit → Forest (Keyed Node) → List FormerTarget → Type 0
AreFormerTargetsOf edit old former = (before after : Evaluated) → before.tree ≡ old → IsDone edit old after.tree → AreFormerTargets former before after
