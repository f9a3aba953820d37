use Rattle.std.proofs.Common.{◌≡◌, ◌+◌, length, count_by}
use Rattle.selector_match.specs.Machinery.Sides.{is_later}
use Rattle.selector_match.specs.Positions.{siblings, is_counted}
use Rattle.selector_match.proofs.element.Element.count_along.Given as goal

abbrev pub invariant-beside : goal.invariant-beside
invariant-beside l = l.count + count_by (is_counted l.same_type l.self.level.element) (siblings (is_later l.side) l.at.level) ≡ count_by (is_counted l.same_type l.self.level.element) (siblings (is_later l.side) l.self.level)

abbrev pub decreases-beside : goal.decreases-beside
decreases-beside l = length (siblings (is_later l.side) l.at.level)
