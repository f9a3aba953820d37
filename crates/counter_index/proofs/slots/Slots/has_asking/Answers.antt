use Rattle.counter_index.proofs.AskingLemmas.{any-asking, asking-any}
use Rattle.counter_index.proofs.slots.Slots.has_asking.Goals as goal

pub returns : goal.returns
returns g c = record {
  test = (
    λ is. any-asking g.T.Asks.asks c.self.inside.slots.items c.args.self.now c.self.view_is c.self.inside.asking c.self.invariant is,
    λ has. asking-any g.T.Asks.asks c.self.inside.slots.items c.args.self.now c.self.view_is c.self.inside.asking c.self.invariant has,
  );
}
