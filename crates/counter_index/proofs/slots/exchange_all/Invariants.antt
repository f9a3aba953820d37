use Rattle.std.proofs.Common.{◌≡◌}
use Rattle.counter_index.specs.Machinery.Asking.{count_asking}
use Rattle.counter_index.proofs.ExchangeLemmas.{Exchanging}
use Rattle.counter_index.proofs.slots.exchange_all.Given as goal

abbrev pub invariant-loop-entry : goal.invariant-loop-entry
invariant-loop-entry g l = record {
  turn : Exchanging l.fn.entries l.fn.slots.items l.entries l.slots.items l.entry-index;
  count : l.asking ≡ count_asking g.T.Asks.asks l.slots.items;
}
