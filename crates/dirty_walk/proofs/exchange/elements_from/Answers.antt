use Rattle.std.proofs.Common.{◌≡◌, ◌++◌, ◌∙◌, [], Some, ap, subst}
use Rattle.forest.specs.Spots.{children_of, first_child_of, on_link}
use Rattle.node_arena.specs.Changes.{alone}
use Rattle.dirty_walk.specs.Exchanges.{element_of, elements_in}
use Rattle.referring_elements.proofs.NodeTurns.{Tells, begins, leave_turn, of_subtree, reach_turn, told_at}
use Rattle.referring_elements.proofs.NodesLeft.{told_of}
use Rattle.dirty_walk.proofs.exchange.elements_from.Goals as goal

pub walk-init : goal.walk-init
walk-init c =
    let tree = c.args.arena.now.tree in
    let made = c.put_element.new.elements in
    let own = told_at element_of tree c.args.key in
    let first : made ≡ own = c.in_ok-put_element.ensures.ok ∙ ap (λ elements. elements ++ own) c.new-elements.ensures.empty in
    let all : made ++ told_of element_of (children_of tree c.args.key) ≡ elements_in (alone (on_link tree (Some c.args.key))) =
    ap (λ elements. elements ++ told_of element_of (children_of tree c.args.key)) first ∙ of_subtree element_of tree c.args.key c.requires.live in
    rw (c.new-inside.ensures.items, c.first_child-link.ensures.link)
    (subst (λ elements. Tells element_of tree elements [] (first_child_of tree c.args.key) made) all (begins element_of tree c.arena_holds_document.ensures.document.distinct c.args.key made c.requires.live))

-- a node is reached
pub walk-smaller-in-Some : goal.walk-smaller-in-Some
walk-smaller-in-Some c =
    (reach_turn element_of c.args.arena.now.tree c.arena_holds_document.ensures.document.distinct (elements_in (alone (on_link c.args.arena.now.tree (Some c.args.key))))
    c.walk.inside.items c.push.new.self.items c.walk.link c.first_child-link-in-Some.result c.in-Some.node c.walk.elements c.put_element-in-Some.new.elements
    c.walk.invariant c.in-Some.is c.in_ok-put_element-in-Some.ensures.ok c.in_ok-push-in-Some.ensures.items c.first_child-link-in-Some.ensures.link).1

pub walk-preserved-in-Some : goal.walk-preserved-in-Some
walk-preserved-in-Some c =
    (reach_turn element_of c.args.arena.now.tree c.arena_holds_document.ensures.document.distinct (elements_in (alone (on_link c.args.arena.now.tree (Some c.args.key))))
    c.walk.inside.items c.push.new.self.items c.walk.link c.first_child-link-in-Some.result c.in-Some.node c.walk.elements c.put_element-in-Some.new.elements
    c.walk.invariant c.in-Some.is c.in_ok-put_element-in-Some.ensures.ok c.in_ok-push-in-Some.ensures.items c.first_child-link-in-Some.ensures.link).0

-- a node is left
pub walk-smaller : goal.walk-smaller
walk-smaller c =
    (leave_turn element_of c.args.arena.now.tree c.arena_holds_document.ensures.document.distinct (elements_in (alone (on_link c.args.arena.now.tree (Some c.args.key))))
    c.walk.inside.items c.pop.new.self.items c.walk.link c.next_sibling-link.result c.in-Some-pop.node c.walk.elements c.walk.elements
    c.walk.invariant c.in-None.is c.in-Some-pop.ensures.items c.next_sibling-link.ensures.link).1

pub walk-preserved : goal.walk-preserved
walk-preserved c =
    (leave_turn element_of c.args.arena.now.tree c.arena_holds_document.ensures.document.distinct (elements_in (alone (on_link c.args.arena.now.tree (Some c.args.key))))
    c.walk.inside.items c.pop.new.self.items c.walk.link c.next_sibling-link.result c.in-Some-pop.node c.walk.elements c.walk.elements
    c.walk.invariant c.in-None.is c.in-Some-pop.ensures.items c.next_sibling-link.ensures.link).0
