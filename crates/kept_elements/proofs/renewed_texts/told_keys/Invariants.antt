use Rattle.std.proofs.Common.{◌≡◌, ℕ, take}
use Rattle.edit_work.specs.KeyedSources.{is_among}
use Rattle.kept_elements.specs.Renewals.{is_told}
use Rattle.kept_elements.proofs.renewed_texts.told_keys.Given as goal

abbrev pub invariant-loop-key : goal.invariant-loop-key
invariant-loop-key l = (key : ℕ) → is_among l.keys.keys key ≡ is_told (take l.key-index l.told) key
