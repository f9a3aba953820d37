use Rattle.std.proofs.Common.{length}
use Rattle.selector_match.specs.Elements.{ancestors}
use Rattle.selector_match.proofs.WalkLaws.{InColumn}
use Rattle.selector_match.proofs.matching.match_ancestors.Given as goal

abbrev pub invariant-ancestors : goal.invariant-ancestors
invariant-ancestors l = InColumn l.selector l.place l.element l.at l.left

abbrev pub decreases-ancestors : goal.decreases-ancestors
decreases-ancestors l = length (ancestors l.at)
