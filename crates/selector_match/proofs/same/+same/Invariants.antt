use Rattle.std.proofs.Common.{◌≡◌, length, take}
use Rattle.selector_match.proofs.same.+same.Given as goal

abbrev pub invariant-is_same_compound-loop-simple : goal.invariant-is_same_compound-loop-simple
invariant-is_same_compound-loop-simple l = (l.place ≡ l.simple-index) × (length l.simple-items ≡ length l.others) × (take l.simple-index l.simple-items ≡ take l.simple-index l.others)

abbrev pub invariant-are_same-loop-compound : goal.invariant-are_same-loop-compound
invariant-are_same-loop-compound l = (l.place ≡ l.compound-index) × (take l.compound-index l.first ≡ take l.compound-index l.second)
