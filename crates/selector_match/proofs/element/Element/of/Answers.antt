use Rattle.std.proofs.Common.{not, sym, ap, ◌∙◌}
use Rattle.selector_match.proofs.StandingLaws.{is-named, is-unnamed, named-element, unnamed-nowhere, stands-there}
use Rattle.selector_match.proofs.element.Element.of.Goals as goal

pub returns-then-is_none : goal.returns-then-is_none
returns-then-is_none c =
    let unnamed = is-unnamed _ _ c.name.ensures.characters (c.is_none.ensures ∙ ap not c.if-is_none.true) in
    sym (unnamed-nowhere c.args.arena.now.tree c.arena_holds_document.ensures.document c.args.key c.requires.live unnamed)

pub invariant_of-result : goal.invariant_of-result
invariant_of-result c =
    let named = is-named _ _ c.name.ensures.characters (c.is_none.ensures ∙ ap not c.if-is_none.false) in
    (c.requires.live, named-element c.args.arena.now.tree c.arena_holds_document.ensures.document c.args.key named.0 c.requires.live named.1, c.requires.right)

pub returns : goal.returns
returns c =
    let named = is-named _ _ c.name.ensures.characters (c.is_none.ensures ∙ ap not c.if-is_none.false) in
    stands-there c.args.arena.now.tree c.args.key (named-element c.args.arena.now.tree c.arena_holds_document.ensures.document c.args.key named.0 c.requires.live named.1)
