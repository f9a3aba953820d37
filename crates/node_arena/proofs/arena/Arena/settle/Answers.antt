use Rattle.node_arena.specs.Reversals.{IsReversal, tree_before}
use Rattle.node_arena.proofs.GoneLaws.{frees-gone}
use Rattle.node_arena.proofs.arena.Arena.settle.Goals as goal

pub give_up-requires : goal.give_up-requires
unfolding IsReversal
give_up-requires c = c.requires

pub returns : goal.returns
unfolding IsReversal tree_before
returns c = record {
  tree = c.give_up.ensures.tree;
  freed = frees-gone c.args.self.now c.give_up.new.self c.args.reversal.change c.arena_holds_document.ensures.document c.requires c.give_up.ensures;
}
