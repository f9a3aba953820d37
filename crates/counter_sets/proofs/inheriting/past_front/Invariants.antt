use Rattle.counter_sets.proofs.InheritLemmas.{IsBehind, IsPast}
use Rattle.counter_sets.proofs.inheriting.past_front.Given as goal

abbrev pub invariant-loop-counter : goal.invariant-loop-counter
invariant-loop-counter l = IsPast l.parent l.sibling l.past l.counter-index × IsBehind l.parent l.sibling l.past l.counter-index
