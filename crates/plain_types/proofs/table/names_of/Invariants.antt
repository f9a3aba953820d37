use Rattle.std.proofs.Common.{◌≡◌, map, take}
use Rattle.std.specs.Str.{chars}
use Rattle.std.specs.String.{string_bytes}
use Rattle.plain_types.specs.declared.counter_style.CounterStyle.{CounterStyle}
use Rattle.plain_types.proofs.table.names_of.Given as goal

abbrev pub invariant-loop-style : goal.invariant-loop-style
invariant-loop-style l = map (λ key. chars (string_bytes key)) l.names.keys ≡ map (λ (style : CounterStyle). style.name) (take l.style-index l.styles)
