use Rattle.std.proofs.Common.{length, reverse}
use Rattle.counter_style_table.proofs.AscentLemmas.{Ascends}
use Rattle.counter_style_table.proofs.finish.ascend.Given as goal

abbrev pub invariant-up : goal.invariant-up
invariant-up l = Ascends l.rules l.initial.styles (reverse l.initial.path.items) l.styles l.cycle l.from (reverse l.path.items)

abbrev pub decreases-up : goal.decreases-up
decreases-up l = length l.path.items
