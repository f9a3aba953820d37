use Rattle.std.proofs.Common.{◌≡◌, drop, option_copied}
use Rattle.std.specs.Option.{option_map_or}
use Rattle.mini_cascade.specs.RuleTables.{Other, narrowest_with, slot_of}
use Rattle.mini_cascade.proofs.slot.narrowest.Given as goal

abbrev pub invariant-loop-simple : goal.invariant-loop-simple
invariant-loop-simple l = narrowest_with (option_map_or slot_of (option_copied l.held) Other) (drop l.simple-index l.simples) ≡ narrowest_with Other l.simples
