use Rattle.std.proofs.Common.{◌≡◌, take}
use Rattle.dirty_walk.specs.Machinery.ReferenceLists.{all_told}
use Rattle.dirty_walk.proofs.reference_exchange.references_after.Given as goal

abbrev pub invariant-loop-key : goal.invariant-loop-key
invariant-loop-key l = l.references ≡ all_told (take l.key-index l.told)
