use Rattle.selectors.proofs.Complete.{selectors_complete}
use Rattle.selectors.proofs.Sound.{selectors_sound}
use Rattle.selectors.proofs.laws.grammar.Goals as goal

pub returns : goal.returns
returns c = record { law = λ text tokens selectors. (λ read. selectors_sound text tokens selectors read, λ is. selectors_complete text tokens selectors is) }
