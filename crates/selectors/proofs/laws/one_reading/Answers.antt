use Rattle.selectors.proofs.Complete.{one_reading}
use Rattle.selectors.proofs.laws.one_reading.Goals as goal

pub returns : goal.returns
returns c = record { law = λ text tokens selectors other first second. one_reading text tokens selectors other first second }
