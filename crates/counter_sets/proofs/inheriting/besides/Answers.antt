use Rattle.std.proofs.Common.{◌∙◌}
use Rattle.counter_sets.proofs.InheritLemmas.{all_missing}
use Rattle.counter_sets.proofs.inheriting.besides.Goals as goal

pub returns-in-Some : goal.returns-in-Some
returns-in-Some c = record { same = all_missing c.in-Some.past.now ∙ c.in-Some.ensures.past }
