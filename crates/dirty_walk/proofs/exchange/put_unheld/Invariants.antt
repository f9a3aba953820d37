use Rattle.std.proofs.Common.{◌≡◌, ◌++◌, flat_map, take}
use Rattle.dirty_walk.specs.Exchanges.{unheld}
use Rattle.dirty_walk.proofs.exchange.put_unheld.Given as goal

abbrev pub invariant-loop-element : goal.invariant-loop-element
invariant-loop-element l = l.changes ≡ l.fn.changes ++ flat_map unheld (take l.element-index l.elements)
