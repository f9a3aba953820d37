use Rattle.std.proofs.Common.{sym, ap, arith, length}
use Rattle.std.specs.Str.{chars}
use Rattle.std.proofs.lemmas.List.Elements.{All-nil, All-push}
use Rattle.selector_match.specs.Machinery.Lookups.{IsElementThere}
use Rattle.selector_match.proofs.StandingLaws.{named-element, parent-ancestors, parent-element}
use Rattle.selector_match.proofs.filling.lacking.Goals as goal

pub up-init : goal.up-init
up-init c =
    ((c.requires.live, named-element c.args.arena.now.tree c.arena_holds_document.ensures.document c.args.key (chars c.in-Some._name.now) c.requires.live (sym c.in-Some.ensures.characters)), rw c.new-path.ensures.items (All-nil (IsElementThere c.args.arena.now.tree)))

pub up-smaller : goal.up-smaller
up-smaller c =
    omega (arith, ap length (parent-ancestors c.args.arena.now.tree c.arena_holds_document.ensures.document c.up.at c.in-Some-parent.parent c.up.invariant.0.0 c.up.invariant.0.1 (sym c.in-Some-parent.ensures.link)))

pub up-preserved : goal.up-preserved
up-preserved c = (
  (c.in-Some-parent.ensures.live, parent-element c.args.arena.now.tree c.arena_holds_document.ensures.document c.up.at c.in-Some-parent.parent c.up.invariant.0.0 (sym c.in-Some-parent.ensures.link)),
  rw c.in_ok-push.ensures.items (All-push (IsElementThere c.args.arena.now.tree) _ _ c.up.invariant.1 c.up.invariant.0),
)
