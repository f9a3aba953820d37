use Rattle.std.proofs.Common.{◌≡◌, ℕ, nat_eq, option_copied, take}
use Rattle.std.specs.HashMap.{get}
use Rattle.merged_walk.specs.Entries.{last_at}
use Rattle.planned_lines.proofs.puts_by_key.puts_by_key.Given as goal

abbrev pub invariant-loop-key : goal.invariant-loop-key
invariant-loop-key l = (key : ℕ) → option_copied (get nat_eq l.map key) ≡ last_at (take l.key-index l.puts) key
