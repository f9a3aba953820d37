use Rattle.std.proofs.Common.{◌≡◌, take}
use Rattle.selector_match.proofs.same.are_same_joins.Given as goal

abbrev pub invariant-loop-join : goal.invariant-loop-join
invariant-loop-join l = (l.place ≡ l.join-index) × (take l.join-index l.first ≡ take l.join-index l.second)
