use Rattle.std.proofs.Common.{sym, ◌∙◌}
use Rattle.selector_match.specs.Machinery.Sides.{is_later}
use Rattle.selector_match.proofs.StandingLaws.{is-named, is-unnamed, along-begins, along-goes-on, along-reaches, along-ends}
use Rattle.selector_match.proofs.neighbours.element_beside.Goals as goal

pub beside-init : goal.beside-init
beside-init c = along-begins c.args.arena.now.tree c.arena_holds_document.ensures.document (is_later c.args.side) c.args.key c.requires.live

pub returns-then-is_some-clause-some : goal.returns-then-is_some-clause-some
returns-then-is_some-clause-some c =
    let named = is-named _ _ c.name.ensures.characters (sym c.is_some.ensures ∙ c.if-is_some.true) in
    along-reaches c.args.arena.now.tree c.arena_holds_document.ensures.document (is_later c.args.side) c.args.key c.beside.at c.in-Some.beside named.0 c.requires.live c.requires.element c.beside.invariant c.in-Some.ensures.live (sym c.in-Some.ensures.link) named.1

pub beside-smaller : goal.beside-smaller
beside-smaller c =
    let unnamed = is-unnamed _ _ c.name.ensures.characters (sym c.is_some.ensures ∙ c.if-is_some.false) in
    (along-goes-on c.args.arena.now.tree c.arena_holds_document.ensures.document (is_later c.args.side) c.args.key c.beside.at c.in-Some.beside c.beside.invariant c.in-Some.ensures.live (sym c.in-Some.ensures.link) unnamed).1

pub beside-preserved : goal.beside-preserved
beside-preserved c =
    let unnamed = is-unnamed _ _ c.name.ensures.characters (sym c.is_some.ensures ∙ c.if-is_some.false) in
    (along-goes-on c.args.arena.now.tree c.arena_holds_document.ensures.document (is_later c.args.side) c.args.key c.beside.at c.in-Some.beside c.beside.invariant c.in-Some.ensures.live (sym c.in-Some.ensures.link) unnamed).0

pub returns-clause-none : goal.returns-clause-none
returns-clause-none c =
    along-ends c.args.arena.now.tree c.arena_holds_document.ensures.document (is_later c.args.side) c.args.key c.beside.at c.requires.live c.requires.element c.beside.invariant (sym c.in_default.ensures.link)
