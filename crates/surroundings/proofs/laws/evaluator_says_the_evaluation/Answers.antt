use Rattle.surroundings.proofs.Said.{said-document}
use Rattle.surroundings.proofs.laws.evaluator_says_the_evaluation.Goals as goal

pub returns : goal.returns
returns c = record { said = said-document }
