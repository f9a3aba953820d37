use Rattle.std.proofs.Common.{◌<◌, ◌^◌, sym, subst, arith}
use Rattle.slab.specs.Slab.{slab_len}
use Rattle.node_arena.specs.Children.{HasRoom}
use Rattle.node_arena.specs.Document.{Document}
use Rattle.node_arena.proofs.StepLaws.{can-put, arena-put, put-in}
use Rattle.node_arena.proofs.arena.Arena.put_in.Goals as goal

pub put_child-requires : goal.put_child-requires
put_child-requires c =
    let can = can-put c.self.inside.nodes c.self.inside.root c.args.self.now c.self.invariant c.self.view_is c.args.key c.args.place c.requires.kept c.requires.free in
    record {
      room = subst (λ (d : Document). HasRoom d.entries c.args.place.parent) (sym c.self.view_is) c.requires.room;
      within = can.within;
      once = can.once;
      below = can.below;
    }

pub invariant_of-self : goal.invariant_of-self
invariant_of-self c =
    let few : slab_len c.put_child.new.nodes < 2 ^ 64 = omega (arith, c.put_child.ensures.len, c.len-count.ensures) in
    arena-put c.self.inside.nodes c.self.inside.root c.args.self.now c.self.invariant c.self.view_is c.args.key c.args.place c.requires.kept c.requires.free c.put_child.new.nodes c.put_child.ensures.hangs few

pub returns : goal.returns
returns c =
    let few : slab_len c.put_child.new.nodes < 2 ^ 64 = omega (arith, c.put_child.ensures.len, c.len-count.ensures) in
    put-in c.self.inside.nodes c.self.inside.root c.args.self.now c.self.invariant c.self.view_is c.args.key c.args.place c.requires.kept c.requires.free c.put_child.new.nodes c.put_child.ensures.hangs few c.put_child.ensures.rooms
