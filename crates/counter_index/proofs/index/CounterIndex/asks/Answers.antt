use Rattle.counter_index.proofs.AskingIndex.{asks-for-starts, starts-are-asked}
use Rattle.counter_index.proofs.index.CounterIndex.asks.Goals as goal

pub returns : goal.returns
returns c = record {
  test = (
    λ is. asks-for-starts c.args.self.now (c.has_asking.ensures.test.0 is),
    λ asks. c.has_asking.ensures.test.1 (starts-are-asked c.args.self.now asks),
  );
}
