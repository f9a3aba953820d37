use Rattle.std.proofs.Common.{◌||◌, sym, ap, ◌∙◌}
use Rattle.forest.specs.Keys.{without_keys}
use Rattle.forest.specs.Spots.{children_of}
use Rattle.style_reach.specs.TouchedSheets.{have_style}
use Rattle.style_reach.proofs.StyleLookups.{holds_style-node}
use Rattle.style_reach.proofs.StyleWalk.{begins, ends, enters, finds, has-parent, leaves}
use Rattle.style_reach.proofs.style_elements.holds_style.Goals as goal

pub returns-then-is_style : goal.returns-then-is_style
returns-then-is_style c =
    let tree = c.args.arena.now.tree in
    ap (λ b. b || have_style (without_keys (children_of tree c.args.key))) (sym c.if-is_style.true ∙ c.is_style.ensures) ∙ sym (holds_style-node tree c.args.key c.requires.live)

pub walk-init : goal.walk-init
walk-init c = rw c.first_child-link.ensures.link (begins c.args.arena.now.tree c.args.key c.arena_holds_document.ensures.document.distinct c.requires.live)

-- one is found
pub returns-then-is_style-2 : goal.returns-then-is_style-2
returns-then-is_style-2 c =
    let tree = c.args.arena.now.tree in
    sym (holds_style-node tree c.args.key c.requires.live
    ∙ ap (λ b. b || have_style (without_keys (children_of tree c.args.key))) (sym c.is_style.ensures ∙ c.if-is_style.false)
    ∙ finds tree c.args.key c.arena_holds_document.ensures.document.distinct c.walk.inside c.in-Some.node c.walk.link c.walk.invariant c.in-Some.is (sym c.is_style-in-Some.ensures ∙ c.if-is_style-2.true))

-- a node is entered
pub walk-smaller-in-Some : goal.walk-smaller-in-Some
walk-smaller-in-Some c =
    (enters c.args.arena.now.tree c.args.key c.arena_holds_document.ensures.document.distinct c.walk.inside c.in-Some.node c.walk.link c.first_child-link-in-Some.result
    c.walk.invariant c.in-Some.is (sym c.is_style-in-Some.ensures ∙ c.if-is_style-2.false) c.first_child-link-in-Some.ensures.link).1

pub walk-preserved-in-Some : goal.walk-preserved-in-Some
walk-preserved-in-Some c =
    (enters c.args.arena.now.tree c.args.key c.arena_holds_document.ensures.document.distinct c.walk.inside c.in-Some.node c.walk.link c.first_child-link-in-Some.result
    c.walk.invariant c.in-Some.is (sym c.is_style-in-Some.ensures ∙ c.if-is_style-2.false) c.first_child-link-in-Some.ensures.link).0

-- all are passed
pub returns-then-inside-key : goal.returns-then-inside-key
returns-then-inside-key c =
    let tree = c.args.arena.now.tree in
    sym (holds_style-node tree c.args.key c.requires.live
    ∙ ap (λ b. b || have_style (without_keys (children_of tree c.args.key))) (sym c.is_style.ensures ∙ c.if-is_style.false)
    ∙ ends tree c.args.key c.arena_holds_document.ensures.document.distinct c.walk.inside c.walk.link c.walk.invariant c.in_default.is c.if-inside-key.true)

-- a node is left
pub walk-smaller : goal.walk-smaller
walk-smaller c =
    (leaves c.args.arena.now.tree c.args.key c.arena_holds_document.ensures.document.distinct c.walk.inside c.in-Some-parent.parent c.walk.link c.next_sibling-link.result
    c.walk.invariant c.in_default.is c.if-inside-key.false c.next_sibling-link.ensures.link (sym c.in-Some-parent.ensures.link)).1

pub walk-preserved : goal.walk-preserved
walk-preserved c =
    (leaves c.args.arena.now.tree c.args.key c.arena_holds_document.ensures.document.distinct c.walk.inside c.in-Some-parent.parent c.walk.link c.next_sibling-link.result
    c.walk.invariant c.in_default.is c.if-inside-key.false c.next_sibling-link.ensures.link (sym c.in-Some-parent.ensures.link)).0

pub returns-in-None : goal.returns-in-None
returns-in-None c =
    absurd (has-parent c.args.arena.now.tree c.args.key c.arena_holds_document.ensures.document.distinct c.walk.inside c.walk.link c.walk.invariant c.if-inside-key.false (sym c.in-None.ensures.link))
