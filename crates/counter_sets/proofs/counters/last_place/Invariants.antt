use Rattle.std.proofs.Common.{◌≡◌, ◌≤◌, length}
use Rattle.std.specs.Str.{chars}
use Rattle.counter_sets.specs.Sets.{is_named, last_place}
use Rattle.counter_sets.proofs.counters.last_place.Given as goal

abbrev pub invariant-loop-last : goal.invariant-loop-last
invariant-loop-last l = record {
  same : last_place (is_named (chars l.name)) l.front ≡ last_place (is_named (chars l.name)) l.counters;
  front : length l.front ≤ length l.counters;
}

abbrev pub decreases-loop-last : goal.decreases-loop-last
decreases-loop-last l = length l.front
