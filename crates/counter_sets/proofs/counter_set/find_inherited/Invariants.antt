use Rattle.std.proofs.Common.{◌≢◌, ◌<◌, ℕ, None, Some, get_or}
use Rattle.std.specs.Prelude.{option_copied}
use Rattle.counter_sets.specs.Sets.{inherited}
use Rattle.counter_sets.proofs.counter_set.find_inherited.Given as goal

abbrev pub invariant-loop-set : goal.invariant-loop-set
invariant-loop-set l = (k : ℕ) → k < l.set-index → option_copied (get_or l.set-items k None) ≢ Some (inherited l.parent (option_copied l.sibling) (option_copied l.preceding))
