use Rattle.std.proofs.Common.{sym}
use Rattle.surroundings.specs.StyledEvaluators.{root_surroundings}
use Rattle.surroundings.proofs.Asking.{asks-all, asks-starts}
use Rattle.surroundings.proofs.laws.evaluator_tells_who_asks.Goals as goal

pub returns : goal.returns
returns c = record { asks = λ table trees. sym (asks-all table trees root_surroundings); starts = λ table node handed behind. asks-starts node handed }
