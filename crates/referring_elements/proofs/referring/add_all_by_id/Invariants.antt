use Rattle.std.proofs.Common.{◌≡◌, ◌||◌, ℕ, take}
use Rattle.std.specs.List.{list_any}
use Rattle.edit_work.specs.KeyedSources.{is_among}
use Rattle.referring_elements.specs.Found.{refers_by_id}
use Rattle.referring_elements.proofs.referring.add_all_by_id.Given as goal

abbrev pub invariant-loop-target : goal.invariant-loop-target
invariant-loop-target l = record {
  found : (key : ℕ) → is_among l.found key ≡ (is_among l.initial.found key || list_any (refers_by_id l.initial.lookup.arena.now.tree l.index key) (take l.target-index l.targets));
  tree : l.lookup.arena.now.tree ≡ l.initial.lookup.arena.now.tree;
}
