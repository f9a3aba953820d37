use Rattle.selectors.proofs.Exact.{ok_found, ok_none}
use Rattle.selectors.proofs.selector_list.read_selectors.Goals as goal

pub returns-clause-found : goal.returns-clause-found
returns-clause-found c = ok_found c.args.text.now c.args.tokens.now c.whole_list.result c.whole_list.ensures

pub returns-clause-none : goal.returns-clause-none
returns-clause-none c = ok_none c.args.text.now c.args.tokens.now c.whole_list.result c.whole_list.ensures
