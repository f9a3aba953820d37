use Rattle.node_arena.proofs.StepLaws.{can-take, arena-take, take-out}
use Rattle.node_arena.proofs.arena.Arena.take_out.Goals as goal

pub take_child-requires : goal.take_child-requires
take_child-requires c =
    let can = can-take c.self.inside.nodes c.self.inside.root c.args.self.now c.self.invariant c.self.view_is c.requires.0 c.args.place c.requires.1 in
    record { within = can.within; once = can.once; below = can.below }

pub invariant_of-self : goal.invariant_of-self
invariant_of-self c = arena-take c.self.inside.nodes c.self.inside.root c.args.self.now c.self.invariant c.self.view_is c.requires.0 c.args.place c.requires.1 c.take_child.new.nodes c.take_child.ensures.hangs

pub returns : goal.returns
returns c = λ key stands.
    take-out c.self.inside.nodes c.self.inside.root c.args.self.now c.self.invariant c.self.view_is key c.args.place stands c.take_child.new.nodes c.take_child.ensures.hangs c.take_child.ensures.rooms c.take_child.ensures.room
