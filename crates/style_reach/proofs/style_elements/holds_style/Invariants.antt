use Rattle.style_reach.proofs.StyleWalk.{Stands, turns_left}
use Rattle.style_reach.proofs.style_elements.holds_style.Given as goal

abbrev pub invariant-walk : goal.invariant-walk
invariant-walk l = Stands l.arena.tree l.key l.inside l.link

abbrev pub decreases-walk : goal.decreases-walk
decreases-walk l = turns_left l.arena.tree l.key l.inside l.link
