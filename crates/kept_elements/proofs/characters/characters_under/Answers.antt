use Rattle.forest.specs.Spots.{children_of}
use Rattle.generated_texts.specs.References.{characters_in}
use Rattle.kept_elements.proofs.CharacterTurns.{begins, leave_turn, reach_turn}
use Rattle.kept_elements.proofs.characters.characters_under.Goals as goal

pub walk-init : goal.walk-init
walk-init c =
    rw (c.new-inside.ensures.items, c.first_child-link.ensures.link, c.new-text.ensures.empty)
    (begins c.args.arena.now.tree c.arena_holds_document.ensures.document.distinct c.args.key c.requires.live)

-- a node is reached
pub walk-smaller-in-Some : goal.walk-smaller-in-Some
walk-smaller-in-Some c =
    (reach_turn c.args.arena.now.tree c.arena_holds_document.ensures.document.distinct (characters_in (children_of c.args.arena.now.tree c.args.key))
    c.walk.inside.items c.push.new.self.items c.walk.link c.first_child-link-in-Some.result c.in-Some.node c.walk.text c.add_characters.new.text
    c.walk.invariant c.in-Some.is c.in_ok-add_characters-in-Some.ensures.ok c.in_ok-push-in-Some.ensures.items c.first_child-link-in-Some.ensures.link).1

pub walk-preserved-in-Some : goal.walk-preserved-in-Some
walk-preserved-in-Some c =
    (reach_turn c.args.arena.now.tree c.arena_holds_document.ensures.document.distinct (characters_in (children_of c.args.arena.now.tree c.args.key))
    c.walk.inside.items c.push.new.self.items c.walk.link c.first_child-link-in-Some.result c.in-Some.node c.walk.text c.add_characters.new.text
    c.walk.invariant c.in-Some.is c.in_ok-add_characters-in-Some.ensures.ok c.in_ok-push-in-Some.ensures.items c.first_child-link-in-Some.ensures.link).0

-- a node is left
pub walk-smaller : goal.walk-smaller
walk-smaller c =
    (leave_turn c.args.arena.now.tree c.arena_holds_document.ensures.document.distinct (characters_in (children_of c.args.arena.now.tree c.args.key))
    c.walk.inside.items c.pop.new.self.items c.walk.link c.next_sibling-link.result c.in-Some-pop.node c.walk.text c.walk.text
    c.walk.invariant c.in-None.is c.in-Some-pop.ensures.items c.next_sibling-link.ensures.link).1

pub walk-preserved : goal.walk-preserved
walk-preserved c =
    (leave_turn c.args.arena.now.tree c.arena_holds_document.ensures.document.distinct (characters_in (children_of c.args.arena.now.tree c.args.key))
    c.walk.inside.items c.pop.new.self.items c.walk.link c.next_sibling-link.result c.in-Some-pop.node c.walk.text c.walk.text
    c.walk.invariant c.in-None.is c.in-Some-pop.ensures.items c.next_sibling-link.ensures.link).0
