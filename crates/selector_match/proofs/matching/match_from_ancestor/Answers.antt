use Rattle.selector_match.proofs.WalkLaws.{up-found}
use Rattle.selector_match.proofs.matching.match_from_ancestor.Goals as goal

pub returns-clause-some : goal.returns-clause-some
returns-clause-some c = up-found c.args.selector.now c.args.place c.args.element.now c.in_ok-left.left c.match_parents.result c.in_ok-left.ensures.some c.match_parents.ensures.some
