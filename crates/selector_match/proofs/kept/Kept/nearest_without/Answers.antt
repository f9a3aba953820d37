use Rattle.std.proofs.Common.{sym, ap, arith, length}
use Rattle.std.specs.Str.{chars}
use Rattle.selector_match.proofs.StandingLaws.{named-element, parent-ancestors, parent-element}
use Rattle.selector_match.proofs.kept.Kept.nearest_without.Goals as goal

pub up-init : goal.up-init
up-init c =
    (c.requires, named-element c.args.arena.now.tree c.arena_holds_document.ensures.document c.args.key (chars c.in_ok-name.field-0.now) c.requires (sym c.in_ok-name.ensures.characters))

pub up-smaller : goal.up-smaller
up-smaller c =
    omega (arith, ap length (parent-ancestors c.args.arena.now.tree c.arena_holds_document.ensures.document c.up.at c.in_ok-at.at c.up.invariant.0 c.up.invariant.1 (sym c.in_ok-at.ensures.link)))

pub up-preserved : goal.up-preserved
up-preserved c =
    (c.in_ok-at.ensures.live, parent-element c.args.arena.now.tree c.arena_holds_document.ensures.document c.up.at c.in_ok-at.at c.up.invariant.0 (sym c.in_ok-at.ensures.link))
