use Rattle.std.proofs.Common.{sym, ap, ◌∙◌}
use Rattle.edit_inverses.specs.Inverses.{last_position}
use Rattle.edit_inverses.proofs.LedPaths.{last_child}
use Rattle.edit_inverses.proofs.place.place_of.Goals as goal

pub returns-in-Some-clause-index : goal.returns-in-Some-clause-index
returns-in-Some-clause-index c = sym (ap last_position c.in-Some.ensures.cases.0 ∙ last_child c.in-Some.parent.now c.in-Some.index.now)
