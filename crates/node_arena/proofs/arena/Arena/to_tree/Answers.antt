use Rattle.std.proofs.Common.{◌<◌, sym, ap, ◌∙◌, subst}
use Rattle.plain_types.specs.Rows.{forest_of}
use Rattle.plain_types.proofs.ForestLemmas.{forest_of-rows}
use Rattle.forest.specs.Keys.{without_keys}
use Rattle.forest.proofs.SpotLaws.{root_link}
use Rattle.forest.specs.Spots.{IsLink}
use Rattle.node_arena.proofs.ToTree.{IsBuilt, to_do, begun-root, does-accept, is-begun, some-begun, turn, ends, finished, is-whole}
use Rattle.node_arena.proofs.arena.Arena.to_tree.Goals as goal
use Rattle.node_arena.proofs.arena.Arena.to_tree.Goals.{then-branch, else-branch}

pub walk-init : goal.walk-init
walk-init c =
    let tree = c.args.self.now.tree in
    rw c.first_child-link.ensures.link
    (begun-root tree c.new-builder.result c.put_node.new.builder c.root-root.result c.in_ok-put_node.field-0 c.root-root.ensures.document c.root-root.ensures.root (subst (IsLink tree) (sym c.root-root.ensures.root) (root_link tree)) c.new-builder.ensures.empty c.in_ok-put_node.ensures.puts)

pub put_node-requires-in-Some-clause-accepts : goal.put_node-requires-in-Some-clause-accepts
put_node-requires-in-Some-clause-accepts c = does-accept c.walk.builder (some-begun c.args.self.now.tree c.walk.builder c.walk.inside c.walk.link c.walk.invariant)

-- a node is put
put : (c : goal.Joined-branch) → IsBuilt c.args.self.now.tree c.put_node-in-Some.new.builder c.if-branch.inside c.if-branch.link × (to_do c.args.self.now.tree c.if-branch.inside c.if-branch.link < to_do c.args.self.now.tree c.walk.inside c.walk.link)
put c =
    let tree = c.args.self.now.tree in
    let so_far = subst (IsBuilt tree c.walk.builder c.walk.inside) c.in-Some.is c.walk.invariant in
    let t = turn tree c.root-root.ensures.document c.walk.builder c.put_node-in-Some.new.builder c.walk.inside c.in-Some.key so_far c.in_ok-put_node-2.field-0 c.in_ok-put_node-2.ensures.puts in
    elim c.if-branch.branch [
      | then-branch w ↦ rw (w.inside-is, w.link-is, w.first_child-link-then-branch.ensures.link, c.in-Some.is) (t.0 w.if-branch.true)
      | else-branch w ↦ rw (w.inside-is, w.link-is, w.next_sibling-link.ensures.link, c.in-Some.is) (t.1 w.if-branch.false)
    ]

pub walk-smaller-in-Some : goal.walk-smaller-in-Some
walk-smaller-in-Some c = (put c).1

pub walk-preserved-in-Some : goal.walk-preserved-in-Some
walk-preserved-in-Some c = (put c).0

pub end-requires : goal.end-requires
end-requires c = is-begun c.walk.builder (some-begun c.args.self.now.tree c.walk.builder c.walk.inside c.walk.link c.walk.invariant)

pub finish-requires : goal.finish-requires
finish-requires c =
    let tree = c.args.self.now.tree in
    let so_far = subst (IsBuilt tree c.walk.builder c.walk.inside) c.in_default.is c.walk.invariant in
    is-whole tree c.walk.builder c.end.new.self c.root-root.ensures.document (finished tree c.root-root.ensures.document c.walk.builder c.walk.inside so_far (sym c.in-None.ensures.link)) c.end.ensures.ended

pub returns-in-None : goal.returns-in-None
returns-in-None c =
    let tree = c.args.self.now.tree in
    let so_far = subst (IsBuilt tree c.walk.builder c.walk.inside) c.in_default.is c.walk.invariant in
    let all = finished tree c.root-root.ensures.document c.walk.builder c.walk.inside so_far (sym c.in-None.ensures.link) in
    record { tree = c.finish.ensures.tree ∙ ap forest_of (ap (λ b. b.rows) c.end.ensures.ended ∙ all.0) ∙ forest_of-rows (without_keys tree) }

-- an element that is not the root ends
ended : (c : goal.After-next_sibling-link-in-Some-parent) → IsBuilt c.args.self.now.tree c.end.new.self c.in-Some-parent.parent c.next_sibling-link-in-Some-parent.result × (to_do c.args.self.now.tree c.in-Some-parent.parent c.next_sibling-link-in-Some-parent.result < to_do c.args.self.now.tree c.walk.inside c.walk.link)
ended c =
    let tree = c.args.self.now.tree in
    let so_far = subst (IsBuilt tree c.walk.builder c.walk.inside) c.in_default.is c.walk.invariant in
    rw (c.next_sibling-link-in-Some-parent.ensures.link, c.in_default.is)
    (ends tree c.root-root.ensures.document c.walk.builder c.end.new.self c.walk.inside c.in-Some-parent.parent so_far (sym c.in-Some-parent.ensures.link) c.end.ensures.ended)

pub walk-smaller : goal.walk-smaller
walk-smaller c = (ended c).1

pub walk-preserved : goal.walk-preserved
walk-preserved c = (ended c).0
