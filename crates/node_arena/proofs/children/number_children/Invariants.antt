use Rattle.std.proofs.Common.{◌≡◌}
use Rattle.slab.specs.Slab.{slab_len}
use Rattle.node_arena.specs.Entries.{links_in}
use Rattle.node_arena.specs.Children.{listed, KeepsRooms, Numbers}
use Rattle.node_arena.proofs.children.number_children.Given as goal

abbrev pub invariant-loop-index : goal.invariant-loop-index
invariant-loop-index l = record {
  numbers : Numbers (links_in l.fn.nodes) (links_in l.nodes) l.parent (listed (links_in l.fn.nodes) l.parent) l.from l.index;
  listed : listed (links_in l.nodes) l.parent ≡ listed (links_in l.fn.nodes) l.parent;
  rooms : KeepsRooms l.fn.nodes l.nodes;
  len : slab_len l.nodes ≡ slab_len l.fn.nodes;
}
