use Rattle.std.proofs.Common.{◌≡◌, ℕ, List, take}
use Rattle.counter_sets.specs.ByNames.{value_of}
use Rattle.box_eval.specs.Lookups.{start_given}
use Rattle.box_eval.proofs.box_starts.starts_by_name.Given as goal

abbrev pub invariant-loop-start : goal.invariant-loop-start
invariant-loop-start l = (name : List ℕ) → value_of l.by_name name ≡ start_given (take l.start-index l.starts) l.creator name
