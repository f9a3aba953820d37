use Rattle.node_arena.proofs.RelabelLaws.{element-there, arena-relabel, relabelled}
use Rattle.node_arena.proofs.arena.Arena.relabel.Goals as goal

pub replace_node-requires : goal.replace_node-requires
replace_node-requires c = element-there c.self.inside.nodes c.self.inside.root c.args.self.now c.self.invariant c.self.view_is c.args.key c.args.node c.requires

pub invariant_of-self : goal.invariant_of-self
invariant_of-self c = arena-relabel c.self.inside.nodes c.self.inside.root c.args.self.now c.self.invariant c.self.view_is c.args.key c.args.node c.requires c.replace_node.new.nodes c.replace_node.ensures.relabels

pub returns : goal.returns
returns c =
    relabelled c.self.inside.nodes c.self.inside.root c.args.self.now c.self.invariant c.self.view_is c.args.key c.args.node c.requires c.replace_node.new.nodes c.replace_node.ensures.relabels c.replace_node.result c.replace_node.ensures.was c.replace_node.ensures.rooms
