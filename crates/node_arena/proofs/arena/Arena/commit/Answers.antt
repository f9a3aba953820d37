use Rattle.node_arena.specs.Reversals.{IsReady, tree_after, IsReversal, tree_before}
use Rattle.node_arena.proofs.GoneLaws.{used-same}
use Rattle.node_arena.proofs.arena.Arena.commit.Goals as goal

pub apply-requires : goal.apply-requires
unfolding IsReady
apply-requires c = c.requires

pub returns : goal.returns
unfolding tree_after IsReversal tree_before
returns c = record {
  tree = c.apply.ensures.tree;
  reversal = c.apply.ensures.can;
  before = c.apply.ensures.before;
  used = used-same c.args.self.now c.apply.new.self c.apply.ensures.entries;
}
