use Rattle.std.proofs.Common.{◌≡◌, ◌++◌, drop, map, slice_get}
use Rattle.std.specs.List.{filter_map}
use Rattle.std.specs.Map.Iter.{deref}
use Rattle.mini_cascade.proofs.rule_table.rules_at.Given as goal

abbrev pub invariant-loop-place : goal.invariant-loop-place
invariant-loop-place l = map deref l.found.items ++ filter_map (slice_get l.rules) (drop l.place-index l.places) ≡ filter_map (slice_get l.rules) l.places
