use Rattle.std.proofs.Common.{◌≡◌, ◌+◌, ℕ, List, drop, count_by}
use Rattle.std.specs.Str.{bytes_eq}
use Rattle.target_index.specs.Changes.{added_ids}
use Rattle.target_index.specs.Counts.{count_of}
use Rattle.target_index.proofs.counts.count_added.Given as goal

abbrev pub invariant-loop-change : goal.invariant-loop-change
invariant-loop-change l = (id : List ℕ) → count_of l.counts id + count_by (bytes_eq id) (added_ids l.relation (drop l.change-index l.changes)) ≡ count_by (bytes_eq id) (added_ids l.relation l.changes)
