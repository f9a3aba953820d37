use Rattle.std.proofs.Common.{◌≡◌, ◌+◌, ◌-◌, ◌≤◌, vec_len, vec_capacity, ◌++◌, None, replicate}
use Rattle.counter_index.proofs.slots.grow.Given as goal

abbrev pub invariant-loop-slot : goal.invariant-loop-slot
invariant-loop-slot g l = record {
  filled : l.slots.items ≡ l.fn.slots.items ++ replicate l._slot None;
  room : vec_len l.slots + (l.additional - l._slot) ≤ vec_capacity l.slots;
}
