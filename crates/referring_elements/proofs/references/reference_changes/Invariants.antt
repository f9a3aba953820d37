use Rattle.std.proofs.Common.{◌≡◌, take}
use Rattle.referring_elements.specs.References.{all_changes}
use Rattle.referring_elements.proofs.references.reference_changes.Given as goal

abbrev pub invariant-loop-key : goal.invariant-loop-key
invariant-loop-key l = l.changes ≡ all_changes (take l.key-index l.told)
