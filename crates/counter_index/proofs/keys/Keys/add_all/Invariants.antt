use Rattle.std.proofs.Common.{◌≡◌, ◌||◌, ℕ, take}
use Rattle.edit_work.specs.KeyedSources.{is_among}
use Rattle.counter_index.proofs.keys.Keys.add_all.Given as goal

abbrev pub invariant-loop-key : goal.invariant-loop-key
invariant-loop-key l = (other : ℕ) → is_among l.self other ≡ (is_among l.initial.self other || is_among (take l.key-index l.keys) other)
