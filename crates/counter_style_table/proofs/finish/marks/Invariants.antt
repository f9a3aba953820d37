use Rattle.std.proofs.Common.{◌≡◌, map, take}
use Rattle.std.specs.Prelude.{is_some}
use Rattle.counter_style_table.proofs.finish.marks.Given as goal

abbrev pub invariant-loop-style : goal.invariant-loop-style
invariant-loop-style l = l.marks.items ≡ map is_some (take l.style-index l.styles)
