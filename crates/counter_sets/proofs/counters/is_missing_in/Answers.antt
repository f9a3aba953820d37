use Rattle.std.proofs.Common.{◌∙◌, ap, not, sym}
use Rattle.counter_sets.specs.Sets.{is_same}
use Rattle.counter_sets.proofs.InheritLemmas.{any_there}
use Rattle.counter_sets.proofs.counters.is_missing_in.Goals.{then-is_same_at, else-is_same_at}
use Rattle.counter_sets.proofs.counters.is_missing_in.Goals as goal

pub returns : goal.returns
returns c = elim c.if-is_same_at.branch [
  | then-is_same_at w ↦ record {
    test = ap not (w.result-is ∙ w.if-is_same_at.true ∙ sym (any_there (is_same c.args.counter.now) c.args.counters.now c.args.place (c.is_same_at.ensures.test.0 w.if-is_same_at.true)));
  }
  | else-is_same_at w ↦ record { test = ap not (w.result-is ∙ w.contains.ensures.test) }
]
