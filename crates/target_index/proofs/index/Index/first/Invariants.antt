use Rattle.std.proofs.Common.{take}
use Rattle.target_index.proofs.FirstLemmas.{IsLeast}
use Rattle.target_index.proofs.index.Index.first.Given as goal

abbrev pub invariant-loop-key : goal.invariant-loop-key
invariant-loop-key l = IsLeast l.arena.tree (take l.key-index l.key-items) l.first
