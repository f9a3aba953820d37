use Rattle.std.proofs.Common.{◌+◌, ◌≤◌, length, vec_len, vec_capacity}
use Rattle.plain_types.specs.Rows.{rows}
use Rattle.node_arena.specs.Added.{AddsOnly}
use Rattle.node_arena.proofs.FromTree.{IsSoFar}
use Rattle.node_arena.proofs.add_tree.add_nodes.Given as goal

abbrev pub invariant-loop-place : goal.invariant-loop-place
invariant-loop-place l = record {
  so_far : IsSoFar l.nodes l.root l.open.items l.keys.items l.place l.tree;
  only : AddsOnly l.fn.nodes l.nodes l.keys.items;
  room : vec_len l.keys + length (rows 0 l.tree) ≤ vec_capacity l.keys + l.place;
}
