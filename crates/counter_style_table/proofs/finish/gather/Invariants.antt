use Rattle.std.proofs.Common.{◌≡◌, ◌++◌, Option}
use Rattle.std.specs.List.{filter_map}
use Rattle.std.specs.Vec.Iter.{into_iter_items}
use Rattle.plain_types.specs.declared.counter_style.CounterStyle.{CounterStyle}
use Rattle.counter_style_table.proofs.finish.gather.Given as goal

abbrev pub invariant-loop-style : goal.invariant-loop-style
invariant-loop-style l =
    l.gathered ++ filter_map (λ (style : Option CounterStyle). style) (into_iter_items l.style-iterator) ≡ filter_map (λ (style : Option CounterStyle). style) l.fn.styles.items
