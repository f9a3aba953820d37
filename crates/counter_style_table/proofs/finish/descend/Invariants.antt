use Rattle.std.proofs.Common.{reverse}
use Rattle.std.specs.Prelude.{count_by, not}
use Rattle.counter_style_table.proofs.DescentLemmas.{Descends}
use Rattle.counter_style_table.proofs.finish.descend.Given as goal

abbrev pub invariant-down : goal.invariant-down
invariant-down l = Descends l.rules l.styles l.start l.begun l.at (reverse l.path.items)

abbrev pub decreases-down : goal.decreases-down
decreases-down l = count_by (λ b. not b) l.begun
