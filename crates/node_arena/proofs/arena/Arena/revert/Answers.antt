use Rattle.std.proofs.Common.{◌∙◌}
use Rattle.node_arena.specs.Reversals.{IsReversal, tree_before}
use Rattle.node_arena.proofs.GoneLaws.{frees-then}
use Rattle.node_arena.proofs.arena.Arena.revert.Goals as goal

pub apply-undone-requires : goal.apply-undone-requires
unfolding IsReversal
apply-undone-requires c = c.requires

pub returns : goal.returns
unfolding tree_before
returns c = record {
  tree = c.give_up.ensures.tree ∙ c.apply-undone.ensures.tree;
  freed = frees-then c.args.self.now c.apply-undone.new.self c.give_up.new.self c.args.reversal.change c.apply-undone.result c.arena_holds_document.ensures.document c.apply-undone.ensures c.give_up.ensures;
}
