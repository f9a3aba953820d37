use Rattle.std.proofs.Common.{◌≡◌, ◌++◌, take}
use Rattle.plain_types.specs.Rows.{rows}
use Rattle.dirty_walk.specs.Machinery.FormerLists.{formers_in}
use Rattle.dirty_walk.proofs.former_targets.put_fragment.Given as goal

abbrev pub invariant-loop-place : goal.invariant-loop-place
invariant-loop-place l = record {
  former : l.former ≡ l.initial.former ++ formers_in l.initial.lookup.arena.now.tree (take l.place (rows 0 l.fragment));
  tree : l.lookup.arena.now.tree ≡ l.initial.lookup.arena.now.tree;
}
