use Rattle.std.proofs.Common.{◌≡◌, ℕ, take}
use Rattle.mini_cascade.specs.Machinery.Shelves.{has_slot, is_in_slot, passes_at}
use Rattle.mini_cascade.specs.RuleTables.{Slot}
use Rattle.mini_cascade.proofs.shelves.Shelves.of.Given as goal

abbrev pub invariant-loop-place : goal.invariant-loop-place
invariant-loop-place l = (slot : Slot) (one : ℕ) → is_in_slot l.shelves slot one ≡ passes_at (has_slot slot) (take l.place l.rules) one
