use Rattle.std.proofs.Common.{subst, sym}
use Rattle.counter_sets.specs.Sets.{AreDistinct}
use Rattle.counter_sets.proofs.DistinctLemmas.{valued_from_two_distinct}
use Rattle.counter_sets.proofs.counter_set.CounterSet.inherit.Goals as goal

pub of-requires : goal.of-requires
of-requires c = record {
  distinct =
      valued_from_two_distinct c.counters_of-values.result.now c.as_slice.result.now c.counters_of.result.now c.in_ok-counters.counters.items
      (subst AreDistinct (sym c.as_slice.ensures.counters) c.as_slice.ensures.distinct)
      (subst AreDistinct (sym c.counters_of.ensures.counters) c.counters_of.ensures.distinct)
      c.in_ok-counters.ensures.copy;
}
