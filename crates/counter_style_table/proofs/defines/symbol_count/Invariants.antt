use Rattle.std.proofs.Common.{◌≡◌, drop}
use Rattle.std.specs.List.{fold}
use Rattle.counter_style_table.specs.Counts.{symbol_count_after}
use Rattle.counter_style_table.proofs.defines.symbol_count.Given as goal

abbrev pub invariant-loop-descriptor : goal.invariant-loop-descriptor
invariant-loop-descriptor l = fold symbol_count_after l.count (drop l.descriptor-index l.descriptors) ≡ fold symbol_count_after 0 l.descriptors
