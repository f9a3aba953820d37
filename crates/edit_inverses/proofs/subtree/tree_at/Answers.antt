use Rattle.std.proofs.Common.{◌≡◌, ◌<◌, sym, ap, ◌∙◌, subst}
use Rattle.plain_types.specs.Rows.{forest_of}
use Rattle.plain_types.proofs.ForestLemmas.{forest_of-rows}
use Rattle.node_arena.proofs.ToTree.{to_do}
use Rattle.edit_inverses.proofs.SubtreeLaws.{IsBuiltUnder, begin, does-accept, ends, finished, is-begun, is-whole, some-begun, turn, under}
use Rattle.edit_inverses.proofs.subtree.tree_at.Goals as goal
use Rattle.edit_inverses.proofs.subtree.tree_at.Goals.{then-branch, else-branch}

pub returns-then-not-begun : goal.returns-then-not-begun
returns-then-not-begun c =
    let tree = c.args.arena.now.tree in
    let top = c.args.key in
    let start = begin tree top c.arena_holds_document.ensures.document c.requires c.new-builder.result c.put_node.new.builder c.new-builder.ensures.empty c.in_ok-begun.begun c.in_ok-begun.ensures.puts in
    record { tree = c.finish.ensures.tree ∙ ap forest_of (start.1 c.if-not-begun.true).0 ∙ forest_of-rows (under tree top) }

pub walk-init : goal.walk-init
walk-init c =
    let tree = c.args.arena.now.tree in
    let top = c.args.key in
    let start = begin tree top c.arena_holds_document.ensures.document c.requires c.new-builder.result c.put_node.new.builder c.new-builder.ensures.empty c.in_ok-begun.begun c.in_ok-begun.ensures.puts in
    rw c.first_child-link.ensures.link (start.0 c.if-not-begun.false)

pub put_node-requires-in-Some-clause-accepts : goal.put_node-requires-in-Some-clause-accepts
put_node-requires-in-Some-clause-accepts c =
    does-accept c.walk.builder (some-begun c.args.arena.now.tree c.args.key c.arena_holds_document.ensures.document c.requires c.walk.builder c.walk.inside c.walk.link c.walk.invariant)

-- a node is put
put : (c : goal.Joined-branch)
    → IsBuiltUnder c.args.arena.now.tree c.args.key c.put_node-in-Some.new.builder c.if-branch.inside c.if-branch.link
    × (to_do c.args.arena.now.tree c.if-branch.inside c.if-branch.link < to_do c.args.arena.now.tree c.walk.inside c.walk.link)
put c =
    let tree = c.args.arena.now.tree in
    let top = c.args.key in
    let so_far = subst (IsBuiltUnder tree top c.walk.builder c.walk.inside) c.in-Some.is c.walk.invariant in
    let t = turn tree top c.arena_holds_document.ensures.document c.requires c.walk.builder c.put_node-in-Some.new.builder c.walk.inside c.in-Some.next so_far c.in_ok-put_node.field-0 c.in_ok-put_node.ensures.puts in
    elim c.if-branch.branch [
      | then-branch w ↦ rw (w.inside-is, w.link-is, w.first_child-link-then-branch.ensures.link, c.in-Some.is) (t.0 w.if-branch.true)
      | else-branch w ↦ rw (w.inside-is, w.link-is, w.next_sibling-link.ensures.link, c.in-Some.is) (t.1 w.if-branch.false)
    ]

pub walk-smaller-in-Some : goal.walk-smaller-in-Some
walk-smaller-in-Some c = (put c).1

pub walk-preserved-in-Some : goal.walk-preserved-in-Some
walk-preserved-in-Some c = (put c).0

pub end-requires : goal.end-requires
end-requires c =
    is-begun c.walk.builder (some-begun c.args.arena.now.tree c.args.key c.arena_holds_document.ensures.document c.requires c.walk.builder c.walk.inside c.walk.link c.walk.invariant)

pub finish-requires-in-None : goal.finish-requires-in-None
finish-requires-in-None c =
    let tree = c.args.arena.now.tree in
    let top = c.args.key in
    let so_far = subst (IsBuiltUnder tree top c.walk.builder c.walk.inside) c.in_default.is c.walk.invariant in
    is-whole tree top c.arena_holds_document.ensures.document c.requires c.end.new.self
    (finished tree top c.arena_holds_document.ensures.document c.requires c.walk.builder c.end.new.self c.walk.inside so_far c.in-None.ensures.none c.end.ensures.ended)

pub returns-in-None : goal.returns-in-None
returns-in-None c =
    let tree = c.args.arena.now.tree in
    let top = c.args.key in
    let so_far = subst (IsBuiltUnder tree top c.walk.builder c.walk.inside) c.in_default.is c.walk.invariant in
    let all = finished tree top c.arena_holds_document.ensures.document c.requires c.walk.builder c.end.new.self c.walk.inside so_far c.in-None.ensures.none c.end.ensures.ended in
    record { tree = c.finish-in-None.ensures.tree ∙ ap forest_of all.0 ∙ forest_of-rows (under tree top) }

-- an element that is not the node itself ends
ended : (c : goal.After-next_sibling-link-in-Some-parent_below)
    → IsBuiltUnder c.args.arena.now.tree c.args.key c.end.new.self c.in-Some-parent_below.parent c.next_sibling-link-in-Some-parent_below.result
    × (to_do c.args.arena.now.tree c.in-Some-parent_below.parent c.next_sibling-link-in-Some-parent_below.result < to_do c.args.arena.now.tree c.walk.inside c.walk.link)
ended c =
    let tree = c.args.arena.now.tree in
    let top = c.args.key in
    let so_far = subst (IsBuiltUnder tree top c.walk.builder c.walk.inside) c.in_default.is c.walk.invariant in
    rw (c.next_sibling-link-in-Some-parent_below.ensures.link, c.in_default.is)
    (ends tree top c.arena_holds_document.ensures.document c.requires c.walk.builder c.end.new.self c.walk.inside c.in-Some-parent_below.parent so_far c.in-Some-parent_below.ensures.some.0 c.in-Some-parent_below.ensures.some.1 c.end.ensures.ended)

pub walk-smaller : goal.walk-smaller
walk-smaller c = (ended c).1

pub walk-preserved : goal.walk-preserved
walk-preserved c = (ended c).0
