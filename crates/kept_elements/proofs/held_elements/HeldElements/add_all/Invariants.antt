use Rattle.std.proofs.Common.{◌≡◌, ◌≤◌, ◌+◌, ◌||◌, ℕ, nat_eq, length, take}
use Rattle.std.specs.List.{IsDistinct}
use Rattle.edit_work.specs.KeyedSources.{is_among}
use Rattle.kept_elements.specs.Machinery.Renewals.{AreRead, read_in}
use Rattle.kept_elements.proofs.held_elements.HeldElements.add_all.Given as goal

abbrev pub invariant-loop-key : goal.invariant-loop-key
invariant-loop-key g l = record {
  read : AreRead l.self.keys.keys (read_in l.self.kept) l.board.held;
  keys : (other : ℕ) → is_among l.self.keys.keys other ≡ (is_among l.fn.self.keys.keys other || is_among (take l.key-index l.keys) other);
  unique : IsDistinct nat_eq l.self.keys.keys;
  once : l.steps + length l.fn.self.keys.keys ≡ l.fn.steps + length l.self.keys.keys;
  steps : l.steps ≤ l.fn.steps + l.key-index;
}
