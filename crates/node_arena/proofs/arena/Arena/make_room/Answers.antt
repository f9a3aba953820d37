use Rattle.node_arena.proofs.StepLaws.{arena-same, tree-same, entries-same, live-entry}
use Rattle.node_arena.proofs.arena.Arena.make_room.Goals as goal

pub make_room-requires : goal.make_room-requires
make_room-requires c = live-entry c.self.inside.nodes c.self.inside.root c.args.self.now c.self.invariant c.self.view_is c.args.key c.requires

pub invariant_of-self : goal.invariant_of-self
invariant_of-self c = arena-same c.self.inside.nodes c.self.inside.root c.args.self.now c.self.invariant c.self.view_is c.make_room.new.nodes c.make_room.ensures.links

pub returns : goal.returns
returns c = record {
  tree = tree-same c.self.inside.nodes c.self.inside.root c.args.self.now c.self.invariant c.self.view_is c.make_room.new.nodes c.make_room.ensures.links;
  room = c.make_room.ensures.room;
  entries = entries-same c.self.inside.nodes c.self.inside.root c.args.self.now c.self.invariant c.self.view_is c.make_room.new.nodes c.make_room.ensures.links;
}
