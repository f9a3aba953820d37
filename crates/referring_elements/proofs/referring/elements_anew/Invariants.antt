use Rattle.std.proofs.Common.{◌≡◌, ℕ, take}
use Rattle.std.specs.List.{list_any}
use Rattle.edit_work.specs.KeyedSources.{is_among}
use Rattle.referring_elements.specs.Found.{refers_anew}
use Rattle.referring_elements.specs.Machinery.Additions.{AreAdded}
use Rattle.referring_elements.proofs.referring.elements_anew.Given as goal

abbrev pub invariant-loop-target : goal.invariant-loop-target
invariant-loop-target l = record {
  found : (key : ℕ) → is_among l.found key ≡ list_any (refers_anew l.initial.lookup.arena.now.tree l.index key) (take l.target-index l.former);
  added : AreAdded l.index l.added l.found;
  tree : l.lookup.arena.now.tree ≡ l.initial.lookup.arena.now.tree;
}
