use Rattle.selector_match.proofs.OutcomeLaws.{outcome-here}
use Rattle.selector_match.proofs.element.Element.outcome.Goals as goal

pub returns : goal.returns
returns c =
    outcome-here c.self.inside.arena.now.tree c.self.inside.kept.now.outcomes.parts.items c.args.selector.now c.args.place c.self.inside.key c.args.self.now c.get.result c.self.view_is c.self.invariant.2.2 c.get.ensures
