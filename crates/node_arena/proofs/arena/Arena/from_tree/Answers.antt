use Rattle.std.proofs.Common.{ap, ◌∙◌, arith}
use Rattle.forest.specs.Keys.{without_keys}
use Rattle.node_arena.proofs.AddLaws.{added-document}
use Rattle.node_arena.proofs.EntryLaws.{tree_in-is, closed}
use Rattle.node_arena.proofs.KeyLaws.{settled-first}
use Rattle.node_arena.proofs.arena.Arena.from_tree.Goals as goal

pub invariant_of-result : goal.invariant_of-result
invariant_of-result c =
    let h = c.in_ok-root.ensures.added in
    closed c.add_tree.new.nodes c.in_ok-root.root h.added h.holds (added-document c.in_ok-nodes.nodes c.add_tree.new.nodes c.args.tree.now c.in_ok-root._keys.items c.in_ok-root.root h c.requires.element (omega (arith, c.len.ensures.nodes)))

pub returns : goal.returns
returns c =
    let h = c.in_ok-root.ensures.added in
    record {
      tree = ap (λ t. without_keys t) (tree_in-is c.add_tree.new.nodes c.in_ok-root.root h.added h.holds) ∙ h.tree_is;
      settled = settled-first c.in_ok-nodes.nodes c.add_tree.new.nodes c.in_ok-root.root c.args.tree.now c.in_ok-root._keys.items c.in_ok-nodes.ensures.empty h;
    }
