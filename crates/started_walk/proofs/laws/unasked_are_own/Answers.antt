use Rattle.started_walk.proofs.UnaskedLemmas.{unasked_are_own}
use Rattle.started_walk.proofs.laws.unasked_are_own.Goals as goal

pub returns : goal.returns
returns c = record { same = unasked_are_own }
