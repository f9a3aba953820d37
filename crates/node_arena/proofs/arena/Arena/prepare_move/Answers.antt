use Rattle.forest.proofs.PathLaws.{path-live}
use Rattle.node_arena.proofs.PrepareLaws.{prepares-move-in}
use Rattle.node_arena.proofs.arena.Arena.prepare_move.Goals as goal

pub make_room-requires : goal.make_room-requires
make_room-requires c = path-live c.args.self.now.tree c.args.parent.now c.in-Some.parent c.in-Some.ensures.key

pub returns : goal.returns
returns c = record {
  tree = c.in_ok-make_room.ensures.tree;
  entries = c.in_ok-make_room.ensures.entries;
  prepares = prepares-move-in c.args.self.now c.make_room.new.self c.args.from.now c.args.parent.now c.args.index c.inner-key.result.0 c.in-Some.parent c.inner-key.result.1 c.in_ok-make_room.ensures.tree c.in_ok-make_room.ensures.entries c.inner-key.ensures.document c.inner-key.ensures.key c.inner-key.ensures.place c.in-Some.ensures.key c.requires c.in_ok-make_room.ensures.room;
}
