use Rattle.std.proofs.Common.{◌≡◌, drop}
use Rattle.std.specs.List.{fold}
use Rattle.css_definitions.specs.CounterStyles.{described}
use Rattle.counter_style_table.proofs.describe.over.Given as goal

abbrev pub invariant-loop-descriptor : goal.invariant-loop-descriptor
invariant-loop-descriptor l = fold described l.style (drop l.descriptor-index l.descriptor-items) ≡ fold described l.fn.style l.descriptor-items
