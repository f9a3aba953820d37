use Rattle.selector_match.proofs.ChainLaws.{previous, no-previous}
use Rattle.selector_match.proofs.element.Element.previous_sibling.Goals as goal

pub returns-clause-some : goal.returns-clause-some
returns-clause-some c = previous c.args.self.now c.sibling.result c.sibling.ensures.onward c.sibling.ensures.back c.sibling.ensures.above

pub returns-clause-none : goal.returns-clause-none
returns-clause-none c = no-previous c.args.self.now c.sibling.result c.sibling.ensures.none
