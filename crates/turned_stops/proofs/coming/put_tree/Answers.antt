use Rattle.std.proofs.Common.{◌≡◌, ◌++◌, ◌∙◌, [], Some, ap, subst, append_assoc}
use Rattle.forest.specs.Spots.{children_of, first_child_of, on_link}
use Rattle.node_arena.specs.Changes.{alone}
use Rattle.edit_work.specs.KeyedSources.{element_key, elements_in}
use Rattle.referring_elements.proofs.NodeTurns.{Tells, begins, leave_turn, of_subtree, reach_turn, told_at}
use Rattle.referring_elements.proofs.NodesLeft.{told_of}
use Rattle.turned_stops.proofs.ComingLemmas.{told-elements}
use Rattle.turned_stops.proofs.coming.put_tree.Goals as goal

pub walk-init : goal.walk-init
walk-init c =
    let tree = c.args.arena.now.tree in
    let had = c.args.keys.now in
    let made = c.put_node.new.keys in
    let own = told_at element_key tree c.args.key in
    let below = told_of element_key (children_of tree c.args.key) in
    let all : made ++ below ≡ had ++ elements_in (alone (on_link tree (Some c.args.key))) =
    ap (λ keys. keys ++ below) c.in_ok-put_node.ensures.ok
    ∙ append_assoc had own below
    ∙ ap (λ keys. had ++ keys) (of_subtree element_key tree c.args.key c.requires.live ∙ told-elements (alone (on_link tree (Some c.args.key)))) in
    rw (c.new-inside.ensures.items, c.first_child-link.ensures.link)
    (subst (λ keys. Tells element_key tree keys [] (first_child_of tree c.args.key) made) all (begins element_key tree c.arena_holds_document.ensures.document.distinct c.args.key made c.requires.live))

-- a node is reached
pub walk-smaller-in-Some : goal.walk-smaller-in-Some
walk-smaller-in-Some c =
    (reach_turn element_key c.args.arena.now.tree c.arena_holds_document.ensures.document.distinct (c.args.keys.now ++ elements_in (alone (on_link c.args.arena.now.tree (Some c.args.key))))
    c.walk.inside.items c.push.new.self.items c.walk.link c.first_child-link-in-Some.result c.in-Some.node c.walk.keys c.put_node-in-Some.new.keys
    c.walk.invariant c.in-Some.is c.in_ok-put_node-in-Some.ensures.ok c.in_ok-push-in-Some.ensures.items c.first_child-link-in-Some.ensures.link).1

pub walk-preserved-in-Some : goal.walk-preserved-in-Some
walk-preserved-in-Some c =
    (reach_turn element_key c.args.arena.now.tree c.arena_holds_document.ensures.document.distinct (c.args.keys.now ++ elements_in (alone (on_link c.args.arena.now.tree (Some c.args.key))))
    c.walk.inside.items c.push.new.self.items c.walk.link c.first_child-link-in-Some.result c.in-Some.node c.walk.keys c.put_node-in-Some.new.keys
    c.walk.invariant c.in-Some.is c.in_ok-put_node-in-Some.ensures.ok c.in_ok-push-in-Some.ensures.items c.first_child-link-in-Some.ensures.link).0

-- a node is left
pub walk-smaller : goal.walk-smaller
walk-smaller c =
    (leave_turn element_key c.args.arena.now.tree c.arena_holds_document.ensures.document.distinct (c.args.keys.now ++ elements_in (alone (on_link c.args.arena.now.tree (Some c.args.key))))
    c.walk.inside.items c.pop.new.self.items c.walk.link c.next_sibling-link.result c.in-Some-pop.node c.walk.keys c.walk.keys
    c.walk.invariant c.in-None.is c.in-Some-pop.ensures.items c.next_sibling-link.ensures.link).1

pub walk-preserved : goal.walk-preserved
walk-preserved c =
    (leave_turn element_key c.args.arena.now.tree c.arena_holds_document.ensures.document.distinct (c.args.keys.now ++ elements_in (alone (on_link c.args.arena.now.tree (Some c.args.key))))
    c.walk.inside.items c.pop.new.self.items c.walk.link c.next_sibling-link.result c.in-Some-pop.node c.walk.keys c.walk.keys
    c.walk.invariant c.in-None.is c.in-Some-pop.ensures.items c.next_sibling-link.ensures.link).0
