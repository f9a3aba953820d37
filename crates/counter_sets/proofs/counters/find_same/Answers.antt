use Rattle.std.proofs.Common.{◌∙◌}
use Rattle.counter_sets.proofs.InheritLemmas.{found_there, lent_at}
use Rattle.counter_sets.proofs.counters.find_same.Goals as goal

pub returns-then-is_same_at : goal.returns-then-is_same_at
returns-then-is_same_at c = record {
  found =
      lent_at c.args.counters.now c.args.place c.get.result c.get.ensures.lookup
      ∙ found_there c.args.counter.now c.args.counters.now c.args.place c.requires.distinct (c.is_same_at.ensures.test.0 c.if-is_same_at.true);
}
