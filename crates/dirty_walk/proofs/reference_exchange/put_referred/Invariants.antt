use Rattle.std.proofs.Common.{◌≡◌, ◌++◌, map, take}
use Rattle.dirty_walk.specs.Machinery.ReferenceLists.{referred}
use Rattle.dirty_walk.proofs.reference_exchange.put_referred.Given as goal

abbrev pub invariant-loop-reference : goal.invariant-loop-reference
invariant-loop-reference l = l.changes ≡ l.fn.changes ++ map referred (take l.reference-index l.references)
