use Rattle.std.proofs.Common.{◌≡◌, ◌++◌, take}
use Rattle.dirty_walk.specs.Machinery.FormerLists.{formers_of}
use Rattle.dirty_walk.proofs.former_targets.put_elements.Given as goal

abbrev pub invariant-loop-element : goal.invariant-loop-element
invariant-loop-element l = record {
  former : l.former ≡ l.initial.former ++ formers_of l.initial.lookup.arena.now.tree (take l.element-index l.elements);
  tree : l.lookup.arena.now.tree ≡ l.initial.lookup.arena.now.tree;
}
