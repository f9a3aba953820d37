use Rattle.selector_match.proofs.WalkLaws.{InUp}
use Rattle.selector_match.proofs.matching.match_parents.Given as goal

abbrev pub invariant-parents : goal.invariant-parents
invariant-parents l = InUp l.selector l.place l.element l.at l.left

abbrev pub decreases-parents : goal.decreases-parents
decreases-parents l = l.left
