use Rattle.std.proofs.Common.{◌≡◌, ◌<◌, ◌≤◌, ℕ, List, Some, slice_get}
use Rattle.target_index.specs.Pairs.{keys_of, room_of}
use Rattle.target_index.proofs.pairs.Pairs.reserve_all.Given as goal

abbrev pub invariant-loop-place : goal.invariant-loop-place
invariant-loop-place l = record {
  keys : (other : List ℕ) → keys_of l.self other ≡ keys_of l.fn.self other;
  kept : (other : List ℕ) → room_of l.fn.self other ≤ room_of l.self other;
  made : (place : ℕ) (counted : List ℕ × ℕ) → place < l.place → slice_get l.counts place ≡ Some counted → counted.1 ≤ room_of l.self counted.0;
}
