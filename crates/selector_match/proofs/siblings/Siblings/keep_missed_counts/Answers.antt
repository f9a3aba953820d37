use Rattle.std.proofs.Common.{subst}
use Rattle.selector_match.specs.declared.side.Side.{Side}
use Rattle.selector_match.specs.Machinery.Kept.{AreCounts}
use Rattle.selector_match.specs.Machinery.Sides.{is_later}
use Rattle.selector_match.proofs.siblings.Siblings.keep_missed_counts.Goals as goal

pub invariant_of-self : goal.invariant_of-self
invariant_of-self c =
    (subst (λ (side : Side). AreCounts c.self.inside.arena.now.tree (is_later side) c.keep_counts-refused.new.kept.entries) c.in-Earlier.is c.keep_counts-refused.ensures.counts, c.self.invariant.1, c.self.invariant.2)

pub invariant_of-self-in-Later : goal.invariant_of-self-in-Later
invariant_of-self-in-Later c =
    (c.self.invariant.0, subst (λ (side : Side). AreCounts c.self.inside.arena.now.tree (is_later side) c.keep_counts-refused-in-Later.new.kept.entries) c.in-Later.is c.keep_counts-refused-in-Later.ensures.counts, c.self.invariant.2)
