use Rattle.std.proofs.Common.{◌≡◌, ℕ, take}
use Rattle.edit_work.specs.KeyedSources.{is_among}
use Rattle.kept_elements.specs.Machinery.Renewals.{some_names}
use Rattle.kept_elements.proofs.renewed_targets.target_keys.Given as goal

abbrev pub invariant-loop-key : goal.invariant-loop-key
invariant-loop-key l = record {
  named : (key : ℕ) → is_among l.keys.keys key ≡ some_names l.initial.lookup.arena.now.tree (take l._key-index l.records) key;
  tree : l.lookup.arena.now.tree ≡ l.initial.lookup.arena.now.tree;
}
