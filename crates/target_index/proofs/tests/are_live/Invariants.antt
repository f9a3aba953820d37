use Rattle.std.proofs.Common.{◌≡◌, ℕ, nat_eq, true, take}
use Rattle.std.specs.List.{list_any}
use Rattle.forest.specs.Spots.{IsLive}
use Rattle.target_index.proofs.tests.are_live.Given as goal

abbrev pub invariant-loop-key : goal.invariant-loop-key
invariant-loop-key l = (key : ℕ) → list_any (nat_eq key) (take l.key-index l.keys) ≡ true → IsLive l.arena.tree key
