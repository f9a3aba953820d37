use Rattle.std.proofs.Common.{length}
use Rattle.selector_match.specs.Elements.{earlier_siblings}
use Rattle.selector_match.proofs.WalkLaws.{InRow}
use Rattle.selector_match.proofs.matching.match_earlier_siblings.Given as goal

abbrev pub invariant-earlier : goal.invariant-earlier
invariant-earlier l = InRow l.selector l.place l.element l.at l.left

abbrev pub decreases-earlier : goal.decreases-earlier
decreases-earlier l = length (earlier_siblings l.at)
