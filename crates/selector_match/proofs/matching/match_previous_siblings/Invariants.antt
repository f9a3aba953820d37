use Rattle.selector_match.proofs.WalkLaws.{InNext}
use Rattle.selector_match.proofs.matching.match_previous_siblings.Given as goal

abbrev pub invariant-previous : goal.invariant-previous
invariant-previous l = InNext l.selector l.place l.element l.at l.left

abbrev pub decreases-previous : goal.decreases-previous
decreases-previous l = l.left
