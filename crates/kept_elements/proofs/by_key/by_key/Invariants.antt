use Rattle.std.proofs.Common.{◌≡◌, ℕ, nat_eq, option_copied, take}
use Rattle.std.specs.HashMap.{get}
use Rattle.generated_texts.specs.References.{kept_at}
use Rattle.kept_elements.proofs.by_key.by_key.Given as goal

abbrev pub invariant-loop-key : goal.invariant-loop-key
invariant-loop-key g l = (key : ℕ) → option_copied (get nat_eq l.map key) ≡ kept_at (take l.key-index l.kept) key
