use Rattle.std.proofs.Common.{◌≡◌, take}
use Rattle.selector_match.proofs.copies.copies_of_joins.Given as goal

abbrev pub invariant-loop-join : goal.invariant-loop-join
invariant-loop-join l = l.copies ≡ take l.join-index l.joins
