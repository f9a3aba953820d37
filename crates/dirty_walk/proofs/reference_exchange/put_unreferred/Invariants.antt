use Rattle.std.proofs.Common.{◌≡◌, ◌++◌, map, take}
use Rattle.dirty_walk.specs.Machinery.ReferenceLists.{unreferred}
use Rattle.dirty_walk.proofs.reference_exchange.put_unreferred.Given as goal

abbrev pub invariant-loop-reference : goal.invariant-loop-reference
invariant-loop-reference l = l.changes ≡ l.fn.changes ++ map unreferred (take l.reference-index l.references)
