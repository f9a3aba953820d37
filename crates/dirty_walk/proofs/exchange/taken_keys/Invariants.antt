use Rattle.std.proofs.Common.{◌≡◌, map, take}
use Rattle.dirty_walk.specs.declared.exchange.ElementId.{ElementId}
use Rattle.dirty_walk.proofs.exchange.taken_keys.Given as goal

abbrev pub invariant-loop-element : goal.invariant-loop-element
invariant-loop-element l = l.keys ≡ map (λ (element : ElementId). element.key) (take l.element-index l.leaving)
